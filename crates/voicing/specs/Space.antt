-- What the calls over a work space promise: marking, closing up, filling back.
use Rattle.std.specs.Prelude.{◌≡◌, Bool, cond, ◌&&◌, List, ◌++◌, map, ℕ, ◌+◌, ◌-◌, ◌*◌, ◌/◌, ◌%◌, length, drop, ltb, leb, eqb, Float}
use Rattle.std.proofs.lemmas.List.Edits.{sets}
use Rattle.lists.specs.Sizes.{most_windows, most_components, most_states, most_frames}
use Rattle.lists.specs.Totals.{total}
use Rattle.lists.specs.Build.{build, rows}
use Rattle.lists.specs.Flags.{flag}
use Rattle.lists.specs.Frames.{expand, select, fill, count}
use Rattle.region.specs.Rows.{elem}
use Rattle.region.specs.Region.{Region, size_of, region_in, region_of, each_region}
use Rattle.region.specs.declared.Layout.{Layout}
use Rattle.region.specs.declared.Group.{Group}
use Rattle.voicing.specs.Mask.{stream_mask, mask_in}
use Rattle.voicing.specs.Windows.{means_in, ivars_in}
use Rattle.voicing.specs.declared.Voicing.{Voicing}

-- RULES, Sizes: so many states and frames are allowed, and there is a flag a frame
abbrev pub flagged : List ℕ → ℕ → Bool
flagged ds flags = leb (length ds) most_states && leb (total ds) most_frames && leb (total ds) flags

-- ---- `mark`

-- and there is a record a state
abbrev pub marks : Voicing → List Float → List ℕ → ℕ → Bool
marks u records ds flags = flagged ds flags && leb (length ds * u.size) (length records)

-- how many frames are voiced, and the frames' flags; 0 and nothing where the lists don't fit
pub record MarkSays (u : Voicing) (records : List Float) (ds flags : List ℕ) (r : ℕ) (flags' : List ℕ) : Type 0 where
  pub answer : r ≡ cond (marks u records ds (length flags)) (count (stream_mask u.size records u.threshold ds)) 0
  pub marked : flags' ≡ cond (marks u records ds (length flags)) (map flag (stream_mask u.size records u.threshold ds) ++ drop (total ds) flags) flags

-- ---- `mark_switches`

-- there is a flag a frame and a switch a state, and behind the flags room for the switches of the voiced frames
abbrev pub switches : List ℕ → ℕ → List ℕ → Bool
switches ds states flags = flagged ds (length flags) && eqb states (length ds) && leb (total ds + count (mask_in ds flags)) (length flags)

-- RULES, Global variance: the voiced frames' switches, closed up, behind the frames' flags
pub record SwitchesSay (ds on flags flags' : List ℕ) : Type 0 where
  pub switched : flags' ≡ cond (switches ds (length on) flags) (sets flags (total ds) (select (mask_in ds flags) (expand ds on))) flags

-- ---- regions of a group

-- the components are some of v
abbrev pub components_fit : Group → Bool
components_fit c = leb c.v most_components && leb (c.first + c.lanes) c.v

-- there is a flag a frame, as many are voiced as the layout says, the components are some of v, and their regions lie within the list
abbrev pub grouped : List ℕ → List ℕ → Layout → Group → ℕ → Bool
grouped ds flags g c floats = flagged ds (length flags) && eqb (count (mask_in ds flags)) g.n && components_fit c && leb (c.lanes * size_of g) floats

-- ---- `close_up`

-- a component's region with its pairs closed up, and zeroed near the ends of runs
abbrev pub paired_in : ℕ → List Float → ℕ → List ℕ → List Bool → List ℕ → ℕ → Region → Region
paired_in size records v widths mask ds component r = record {
  means = rows (means_in size records v component mask ds) (length widths);
  ivars = rows (ivars_in size records v component widths mask ds) (length widths);
  matrix = r.matrix;
  side = r.side;
  factors = r.factors;
  values = r.values;
}

-- and there is a record a state, with the pairs of so many windows
abbrev pub closes : ℕ → List Float → List ℕ → List ℕ → List ℕ → Layout → Group → ℕ → Bool
closes size records widths ds flags g c floats =
    grouped ds flags g c floats && eqb (length widths) g.windows && leb (length widths) most_windows && leb ((length widths + length widths) * c.v) size && leb (length ds * size) (length records)

pub record CloseSays (size : ℕ) (records : List Float) (widths ds flags : List ℕ) (g : Layout) (c : Group) (work work' : List Float) : Type 0 where
  pub space : work' ≡ cond (closes size records widths ds flags g c (length work))
      (each_region g c.lanes (λ l. paired_in size records c.v widths (mask_in ds flags) ds (c.first + l)) work) work

-- ---- `fill_back`

-- and the trajectory has v numbers a frame
abbrev pub fills : List ℕ → List ℕ → Layout → Group → ℕ → ℕ → Bool
fills ds flags g c floats numbers = grouped ds flags g c floats && eqb numbers (total ds * c.v)

-- whether a component is one of the group
abbrev pub is_in : Group → ℕ → Bool
is_in c component = leb c.first component && ltb component (c.first + c.lanes)

-- RULES, Sizes: a component's numbers stand at frame * v + component. Number p of a trajectory after the values of a group's regions are filled back
abbrev pub filled_at : Float → List Bool → Layout → Group → List Float → List Float → ℕ → Float
filled_at none mask g c work out p =
    cond (is_in c (p % c.v)) (elem (fill none mask (region_in g (region_of (size_of g) (p % c.v - c.first) work)).values) (p / c.v)) (elem out p)

pub record FillSays (none : Float) (ds flags : List ℕ) (g : Layout) (c : Group) (work out out' : List Float) : Type 0 where
  pub numbers : out' ≡ cond (fills ds flags g c (length work) (length out)) (build (filled_at none (mask_in ds flags) g c work out) (length out)) out
