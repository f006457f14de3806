-- What the private functions ask of the lists that they are lent.
use Rattle.std.specs.Prelude.{◌≡◌, Bool, cond, ◌&&◌, ◌||◌, List, ℕ, ◌+◌, ◌*◌, ◌≤◌, length, take, get_or, ltb, leb, eqb}
use Rattle.lists.specs.Sizes.{most_windows, most_states, most_frames}
use Rattle.lists.specs.Totals.{total}
use Rattle.lists.specs.Refusals.{or_else}
use Rattle.lists.specs.Flags.{is_on}
use Rattle.lists.specs.Frames.{count}
use Rattle.region.specs.Region.{size_of}
use Rattle.region.specs.declared.Layout.{Layout}
use Rattle.region.specs.declared.Group.{Group}
use Rattle.voicing.specs.Mask.{mask_in}
use Rattle.voicing.specs.Promise.{frames_refusal}

-- the first frame of state s
abbrev pub frame : List ℕ → ℕ → ℕ
frame ds s = total (take s ds)

-- no frame of a state, whose d frames begin at frame f, is unvoiced
abbrev pub goes_on : List ℕ → ℕ → ℕ → Bool
goes_on flags f d = eqb d 0 || is_on (get_or flags f 0)

-- RULES, Refusals: 3, 4 and 5, and 6 where there is room for so many frames alone
abbrev pub room_refusal : ℕ → List ℕ → ℕ → ℕ
room_refusal weights ds room = or_else (frames_refusal weights ds) (cond (ltb room (total ds)) 6 0)

-- there are no more states and frames than allowed, and flags for all frames
pub record Flagged (ds : List ℕ) (flags : ℕ) : Type 0 where
  pub few : length ds ≤ most_states
  pub frames : total ds ≤ most_frames
  pub room : total ds ≤ flags

-- and a switch a state, with room for those of the voiced frames behind the flags
pub record Switched (ds : List ℕ) (states : ℕ) (flags : List ℕ) : Type 0 where
  pub framed : Flagged ds (length flags)
  pub each : states ≡ length ds
  pub room : total ds + count (mask_in ds flags) ≤ length flags

-- as many frames are voiced as the layout says, the components are some of v, and their regions lie within so many floats
pub record Grouped (ds flags : List ℕ) (g : Layout) (c : Group) (floats : ℕ) : Type 0 where
  pub voiced : count (mask_in ds flags) ≡ g.n
  pub most_v : c.v ≤ 64
  pub some : c.first + c.lanes ≤ c.v
  pub room : c.lanes * size_of g ≤ floats

-- there is a record a state, of so many numbers, with the pairs of so many windows
abbrev pub pairs_fit : ℕ → ℕ → ℕ → ℕ → Layout → ℕ → Bool
pairs_fit size records windows states g v = eqb windows g.windows && leb windows most_windows && leb ((windows + windows) * v) size && leb (states * size) records

-- and records of so many numbers have the pairs of so many windows
pub record Paired (size : ℕ) (records widths : ℕ) (ds flags : List ℕ) (g : Layout) (c : Group) (floats : ℕ) : Type 0 where
  pub lies : Grouped ds flags g c floats
  pub windows : widths ≡ g.windows
  pub most : widths ≤ 4
  pub pairs : (widths + widths) * c.v ≤ size
  pub recorded : length ds * size ≤ records
