-- Numbers of states' records, and a window's variances and inverse variances where nothing is set to 0.
use mathlib.Core.Path.{◌≡◌, refl, sym, ap, ◌∙◌}
use mathlib.Core.Bool.{Bool}
use mathlib.Core.List.{List, [], ◌∷◌, map}
use Prim.Native.Nat.{ℕ, ◌+◌, ◌*◌, ◌<◌}
use native.Mathlib.Omega.{arith}
use borrow.Author.Tests.{le-ltb}
use lib.ListN.{length, get_or, length-map, get_or-map}
use lib.Ieee.{Float, nan}
use Rattle.lists.specs.Totals.{total}
use Rattle.lists.specs.Frames.{expand, select, count}
use Rattle.lists.proofs.Builds.{build-at}
use Rattle.lists.proofs.Chosen.{select-map}
use Rattle.lists.proofs.Counts.{select-length}
use Rattle.lists.proofs.Expansions.{map-expand, expand-length}
use Rattle.lists.proofs.Fills.{build-length}
use Rattle.model.specs.Pair.{ivar_of}
use Rattle.model.specs.Record.{pair_number}
use Rattle.voicing.specs.Mask.{column}
use Rattle.voicing.specs.Boundaries.{lefts, rights, shut_all}
use Rattle.voicing.specs.Windows.{variances_in, ivars_in}
use Rattle.voicing.proofs.Theory.{lefts-length, rights-length}

module _ (size : ℕ) (records : List Float) (j n : ℕ) where
  pub column-length : length (column size records j n) ≡ n
  unfolding column
  column-length = build-length (λ s. get_or records (s * size + j) nan) n

  pub column-at : (s : ℕ) → s < n → get_or (column size records j n) s nan ≡ get_or records (s * size + j) nan
  unfolding column
  column-at s h = build-at (λ s. get_or records (s * size + j) nan) n s nan h

  -- the inverse variances of a column
  pub inverses-length : length (map ivar_of (column size records j n)) ≡ n
  inverses-length = simp length-map column-length

  pub inverses-at : (s : ℕ) → s < n → get_or (map ivar_of (column size records j n)) s (ivar_of nan) ≡ ivar_of (get_or records (s * size + j) nan)
  inverses-at s h = get_or-map ivar_of (column size records j n) s nan ∙ ap ivar_of (column-at s h)

-- a window that reaches no further than its own frame loses nothing, and the first window is one
shut-nothing : (ls rs : List ℕ) (vs : List Float) → length rs ≡ length ls → length vs ≡ length ls → shut_all 0 0 ls rs vs ≡ vs
unfolding shut_all
shut-nothing [] rs [] a b = refl
shut-nothing [] rs (v ∷ vs) a b = absurd (omega arith)
shut-nothing (l ∷ ls) [] vs a b = absurd (omega arith)
shut-nothing (l ∷ ls) (r ∷ rs) [] a b = absurd (omega arith)
shut-nothing (l ∷ ls) (r ∷ rs) (v ∷ vs) a b = rw (le-ltb l 0 (omega arith), le-ltb r 0 (omega arith)) (ap (λ (x : List Float). v ∷ x) (shut-nothing ls rs vs (omega arith) (omega arith)))

pub first-window : (size : ℕ) (records : List Float) (v component : ℕ) (widths : List ℕ) (mask : List Bool) (ds : List ℕ) → length mask ≡ total ds
    → ivars_in size records v component widths mask ds 0 ≡ select mask (expand ds (map ivar_of (column size records (v * length widths + pair_number v 0 component) (length ds))))
unfolding ivars_in
first-window size records v component widths mask ds e =
    let n : length (lefts 0 mask) ≡ total ds = lefts-length 0 mask ∙ e in
    ap (select mask) (shut-nothing (lefts 0 mask) (rights mask) _ (rights-length mask ∙ e ∙ sym n) (expand-length ds _ (inverses-length size records (v * length widths + pair_number v 0 component) (length ds)) ∙ sym n))

-- a window's variances of the voiced frames: one a frame, and of the first window the equations take just their inverses
module _ (size : ℕ) (records : List Float) (v component : ℕ) (widths : List ℕ) (mask : List Bool) (ds : List ℕ) (e : length mask ≡ total ds) where
  pub variances_long : (i : ℕ) → length (variances_in size records v component widths mask ds i) ≡ count mask
  unfolding variances_in
  variances_long i =
      let column-of = column size records (v * length widths + pair_number v i component) (length ds) in
      select-length mask (expand ds column-of) (expand-length ds column-of (column-length size records (v * length widths + pair_number v i component) (length ds)) ∙ sym e)

  pub first-inverses : ivars_in size records v component widths mask ds 0 ≡ map ivar_of (variances_in size records v component widths mask ds 0)
  unfolding variances_in
  first-inverses =
      let column-of = column size records (v * length widths + pair_number v 0 component) (length ds) in
      first-window size records v component widths mask ds e ∙ sym (select-map ivar_of mask (expand ds column-of) ∙ ap (select mask) (map-expand ivar_of ds column-of))
