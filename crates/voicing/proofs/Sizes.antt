-- A region keeps its sizes when its pairs are closed up.
use mathlib.Core.Path.{◌≡◌, sym, ◌∙◌}
use mathlib.Core.Bool.{Bool}
use mathlib.Core.List.{List}
use Prim.Native.Nat.{ℕ, ◌+◌, ◌*◌}
use lib.ListN.{length}
use lib.Ieee.{Float}
use Rattle.lists.specs.Totals.{total}
use Rattle.lists.specs.Frames.{count}
use Rattle.lists.proofs.Counts.{select-length}
use Rattle.lists.proofs.Expansions.{expand-length}
use Rattle.lists.proofs.Joins.{rows-length}
use Rattle.model.specs.Record.{pair_number}
use Rattle.region.specs.Region.{Region, Sized}
use Rattle.region.specs.declared.Layout.{Layout}
use Rattle.voicing.specs.Boundaries.{lefts, rights}
use Rattle.voicing.specs.Windows.{reach_before, reach_after, means_in, ivars_in}
use Rattle.voicing.specs.Space.{paired_in}
use Rattle.voicing.proofs.Theory.{lefts-length, rights-length}
use Rattle.voicing.proofs.Records.{column-length, inverses-length}
use Rattle.voicing.proofs.Runs.{shut-length}

module _ (size : ℕ) (records : List Float) (v component : ℕ) (widths : List ℕ) (mask : List Bool) (ds : List ℕ) (long : length mask ≡ total ds) where
  -- a window has a pair for each voiced frame
  pub means-count : (i : ℕ) → length (means_in size records v component mask ds i) ≡ count mask
  unfolding means_in
  means-count i = select-length mask _ (expand-length ds _ (column-length size records (pair_number v i component) (length ds)) ∙ sym long)

  pub ivars-count : (i : ℕ) → length (ivars_in size records v component widths mask ds i) ≡ count mask
  unfolding ivars_in
  ivars-count i =
      let a : length (rights mask) ≡ length (lefts 0 mask) = rights-length mask ∙ sym (lefts-length 0 mask) in
      let b = expand-length ds _ (inverses-length size records (v * length widths + pair_number v i component) (length ds)) ∙ sym long ∙ sym (lefts-length 0 mask) in
      select-length mask _ (shut-length (reach_before widths i) (reach_after widths i) (lefts 0 mask) (rights mask) _ a b ∙ lefts-length 0 mask)

  pub paired_sized : (g : Layout) (r : Region) → count mask ≡ g.n → length widths ≡ g.windows → Sized g r → Sized g (paired_in size records v widths mask ds component r)
  paired_sized g r n w k = record {
    means = rw (← w) (rows-length (means_in size records v component mask ds) g.n (length widths) (λ i h. means-count i ∙ n));
    ivars = rw (← w) (rows-length (ivars_in size records v component widths mask ds) g.n (length widths) (λ i h. ivars-count i ∙ n));
    matrix = k.matrix;
    side = k.side;
    factors = k.factors;
    values = k.values;
  }
