-- One component's region of the work space: its six lists, where they lie, and the regions of several components one after the other.
use Rattle.std.specs.Prelude.{ℕ, ◌+◌, ◌*◌, ◌≡◌, List, ◌++◌, length, drop, Float}
use Rattle.lists.specs.Build.{rows}
use Rattle.lists.specs.Parts.{part}
use Rattle.region.specs.declared.Layout.{Layout}
use Rattle.region.specs.declared.Places.{Places}

-- a component's numbers: its pairs, window after window, the rows of its normal equations and their right side, the factors of the rows, and its values
pub record Region : Type 0 where
  pub means : List Float
  pub ivars : List Float
  pub matrix : List Float
  pub side : List Float
  pub factors : List Float
  pub values : List Float

-- how many floats a frame takes: two a window, and two rows, each with a number beside it
abbrev pub floats_of : Layout → ℕ
floats_of g = g.windows + g.windows + (g.w + 1) + (g.w + 1)

-- where each list begins, and where the last one ends
abbrev pub ivars_at : Layout → ℕ
ivars_at g = g.windows * g.n

abbrev pub rows_at : Layout → ℕ
rows_at g = ivars_at g + ivars_at g

abbrev pub right_at : Layout → ℕ
right_at g = rows_at g + g.n * g.w

abbrev pub factors_at : Layout → ℕ
factors_at g = right_at g + g.n

abbrev pub values_at : Layout → ℕ
values_at g = factors_at g + g.n * g.w

abbrev pub size_of : Layout → ℕ
size_of g = values_at g + g.n

abbrev pub places_of : Layout → Places
places_of g = record { ivars = ivars_at g; rows = rows_at g; right = right_at g; factors = factors_at g; values = values_at g; size = size_of g }

-- the six lists of a region m of n frames and rows of w numbers, which begin at places p
abbrev pub region_at : Places → ℕ → ℕ → List Float → Region
region_at p n w m = record {
  means = part 0 p.ivars m;
  ivars = part p.ivars p.ivars m;
  matrix = part p.rows (n * w) m;
  side = part p.right n m;
  factors = part p.factors (n * w) m;
  values = part p.values n m;
}

-- those at a layout's places
abbrev pub region_in : Layout → List Float → Region
region_in g m = region_at (places_of g) g.n g.w m

-- and a region of six lists
abbrev pub flat : Region → List Float
flat r = r.means ++ (r.ivars ++ (r.matrix ++ (r.side ++ (r.factors ++ r.values))))

-- lists of the lengths that a layout gives them
pub record Sized (g : Layout) (r : Region) : Type 0 where
  pub means : length r.means ≡ ivars_at g
  pub ivars : length r.ivars ≡ ivars_at g
  pub matrix : length r.matrix ≡ g.n * g.w
  pub side : length r.side ≡ g.n
  pub factors : length r.factors ≡ g.n * g.w
  pub values : length r.values ≡ g.n

-- the region of component l of several
abbrev pub region_of : ℕ → ℕ → List Float → List Float
region_of size l m = part (l * size) size m

-- a work space in which f l is done to the region of each component l < lanes; what lies behind them is as it was
unfoldable pub each_region : Layout → ℕ → (ℕ → Region → Region) → List Float → List Float
unfolding rows
each_region g lanes f work = rows (λ l. flat (f l (region_in g (region_of (size_of g) l work)))) lanes ++ drop (lanes * size_of g) work
