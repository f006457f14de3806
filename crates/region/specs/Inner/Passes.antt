-- Passes over regions: what they need of a region's places, and what they say of one region and of several.
use Rattle.std.specs.Prelude.{ℕ, ◌+◌, ◌*◌, ◌<◌, ◌≤◌, ◌≡◌, List, length, drop, Float}
use Rattle.region.specs.Region.{Region, region_of}
use Rattle.region.specs.declared.Places.{Places}

-- the lists of a region follow each other, the pairs first, and end within so many floats
pub record Spaced (p : Places) (n w size : ℕ) : Type 0 where
  pub rows_at : p.ivars + p.ivars ≤ p.rows
  pub right-at : p.rows + n * w ≤ p.right
  pub factors-at : p.right + n ≤ p.factors
  pub values-at : p.factors + n * w ≤ p.values
  pub room : p.values + n ≤ size

-- a region with other factors and other values
abbrev pub replaced : Region → List Float → List Float → Region
replaced r factors values = record { means = r.means; ivars = r.ivars; matrix = r.matrix; side = r.side; factors = factors; values = values }

-- what a pass does to the region of component l is done to each l < lanes; what lies behind them is as it was
pub record Across (Pass : ℕ → List Float → List Float → Type 0) (size lanes : ℕ) (work work' : List Float) : Type 0 where
  pub long : length work' ≡ length work
  pub each : (l : ℕ) → l < lanes → Pass l (region_of size l work) (region_of size l work')
  pub behind : drop (lanes * size) work' ≡ drop (lanes * size) work
