-- How long the band and the right side are.
use mathlib.Core.Path.{◌≡◌}
use mathlib.Core.List.{List}
use Prim.Native.Nat.{ℕ, ◌*◌}
use lib.ListN.{length}
use lib.Ieee.{Float}
use Rattle.lists.specs.Build.{build}
use Rattle.lists.proofs.Fills.{build-length}
use Rattle.lists.proofs.Joins.{rows-length}
use Rattle.region.specs.Region.{Region, Sized}
use Rattle.region.specs.declared.Layout.{Layout}
use Rattle.band.specs.Promise.{rowed_in}
use Rattle.band.specs.Paper.{entry_of, right_sum, band_rows, right_side}

module _ (widths : List ℕ) (coefs : List Float) (n : ℕ) (us ms : List Float) (w : ℕ) where
  abbrev row_of : ℕ → List Float
  row_of t = build (entry_of widths coefs n us t) w

  each : (t : ℕ) → length (row_of t) ≡ w
  each t = build-length (entry_of widths coefs n us t) w

  pub matrix-length : length (band_rows widths coefs n us w) ≡ n * w
  unfolding band_rows
  matrix-length = rows-length row_of w n (λ t h. each t)

  pub side-length : length (right_side widths coefs n us ms) ≡ n
  unfolding right_side
  side-length = build-length (right_sum widths coefs n us ms) n

-- the lists of a region keep their lengths
pub rowed-sized : (widths : List ℕ) (coefs : List Float) (g : Layout) (r : Region) → Sized g r → Sized g (rowed_in widths coefs g r)
rowed-sized widths coefs g r k = record {
  means = k.means;
  ivars = k.ivars;
  matrix = matrix-length widths coefs g.n r.ivars r.means g.w;
  side = side-length widths coefs g.n r.ivars r.means g.w;
  factors = k.factors;
  values = k.values;
}
