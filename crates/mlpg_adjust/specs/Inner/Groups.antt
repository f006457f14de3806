-- What only the contracts of a trajectory's private functions say.
use Rattle.std.specs.Prelude.{◌≡◌, Bool, true, List, map, ℕ, ◌+◌, ◌*◌, ◌/◌, ◌%◌, ◌<◌, ◌≤◌, length, Float}
use Rattle.std.specs.Float.{binary64}
use Rattle.std.specs.Float.Ieee.{mul}
use Rattle.lists.specs.Sizes.{most_windows, most_taps, most_components, most_states, most_frames}
use Rattle.lists.specs.Totals.{total}
use Rattle.lists.specs.Parts.{part}
use Rattle.lists.specs.Flags.{is_on}
use Rattle.lists.specs.Frames.{fill, count}
use Rattle.model.specs.Windows.{widths_fit, band_width}
use Rattle.region.specs.Rows.{elem}
use Rattle.region.specs.Region as region
use Rattle.region.specs.Region.{Region}
use Rattle.region.specs.declared.Layout.{Layout}
use Rattle.region.specs.declared.Group.{Group}
use Rattle.voicing.specs.Mask.{stream_mask, mask_in}
use Rattle.gv.specs.Parmgen.{parmgen}
use Rattle.gv.specs.Promise.{varied_in}
use Rattle.mlpg_adjust.specs.Trajectory.{gv_on, with_gv, state_size, matrix, side, solved}
use Rattle.mlpg_adjust.specs.Promise.{floats_a_frame, marks_a_frame}
use Rattle.mlpg_adjust.specs.declared.Stream.{Stream}
use Rattle.mlpg_adjust.specs.declared.refusing.Lengths.{Lengths}
use Rattle.mlpg_adjust.specs.declared.group.Plan.{Plan}

-- lists that are accepted: what refusals 1, 3, 4 and 5 leave
pub record Shaped (s : Stream) (widths : List ℕ) (coefs records : List Float) (ds : List ℕ) : Type 0 where
  pub some_v : 0 < s.v
  pub most_v : s.v ≤ most_components
  pub fit : widths_fit widths ≡ true
  pub most-windows : length widths ≤ most_windows
  pub most_width : band_width widths ≤ most_taps
  pub whole : length coefs ≡ total widths
  pub recorded : length records ≡ length ds * state_size s widths
  pub few : length ds ≤ most_states
  pub frames : total ds ≤ most_frames

-- and what 4 leaves of GV's lists, which are no input with GV off
pub record GvFits (s : Stream) (states gv switches : ℕ) : Type 0 where
  pub targets : gv_on s.gv ≡ true → gv ≡ s.v + s.v
  pub switched : gv_on s.gv ≡ true → switches ≡ states

-- an output and a work space that are long enough: what refusal 6 leaves
pub record Room (v frames : ℕ) (n : Lengths) : Type 0 where
  pub numbers : frames * v ≤ n.out
  pub floats : frames * floats_a_frame ≤ n.work
  pub counts : frames * marks_a_frame ≤ n.marks

module _ (s : Stream) (widths : List ℕ) (records : List Float) (ds : List ℕ) where
  -- the voiced frames of a stream, how a component's region is laid out, and what else is the same for every component
  abbrev pub voiced_in : List Bool
  voiced_in = stream_mask (state_size s widths) records s.threshold ds

  abbrev pub layout_of : Layout
  layout_of = record { windows = length widths; n = count voiced_in; w = band_width widths }

  abbrev pub plan_of : Plan
  plan_of = record { stream = s; layout = layout_of; size = state_size s widths; frames = total ds }

-- marks whose first numbers are the flags of the stream's frames, with room for a switch a voiced frame behind them
pub record Marked (s : Stream) (widths : List ℕ) (records : List Float) (ds marks : List ℕ) : Type 0 where
  pub flags : mask_in ds marks ≡ voiced_in s widths records ds
  pub most : count (voiced_in s widths records ds) ≤ total ds
  pub room : total ds + count (voiced_in s widths records ds) ≤ length marks

-- what is asked of the lists for each group of components
pub record Ready (p : Plan) (widths : List ℕ) (coefs records : List Float) (ds marks : List ℕ) : Type 0 where
  pub plan : p ≡ plan_of p.stream widths records ds
  pub shaped : Shaped p.stream widths coefs records ds
  pub marked : Marked p.stream widths records ds marks

-- what the global variance needs of a plan and a group, of so many marks and floats
pub record Varying (p : Plan) (c : Group) (marks work : ℕ) : Type 0 where
  pub some : 0 < p.layout.w
  pub few_windows : p.layout.windows ≤ most_windows
  pub few : p.layout.n ≤ most_frames
  pub frames : p.frames ≤ most_frames
  pub switches : p.frames + p.layout.n ≤ marks
  pub components : c.first + c.lanes ≤ c.v
  pub most_v : c.v ≤ most_components
  pub room : c.lanes * region.size_of p.layout ≤ work

-- lane l's region after the global variance: its switches stand behind the marks of all frames, its targets in a list of v means and v variances
abbrev pub target_in : Plan → Group → List ℕ → List Float → Float → ℕ → Region → Region
target_in p c marks gv weight l =
    varied_in p.layout (map is_on (part p.frames p.layout.n marks)) (mul binary64 (elem (part c.first c.lanes gv) l) weight) (elem (part (c.v + c.first) c.lanes gv) l)

module _ (s : Stream) (widths : List ℕ) (coefs records : List Float) (ds : List ℕ) where
  -- a component's values, from the voiced frames' switches
  abbrev pub component_values : List ℕ → List Float → ℕ → List Float
  component_values on gv component =
      with_gv s.gv
      (λ weight. parmgen (band_width widths) (matrix (state_size s widths) records s.threshold ds s.v widths coefs component) (side (state_size s widths) records s.threshold ds s.v widths coefs component)
      (map is_on on) (length widths) (mul binary64 (elem gv component) weight) (elem gv (s.v + component)) (solved (state_size s widths) records s.threshold ds s.v widths coefs component))
      (solved (state_size s widths) records s.threshold ds s.v widths coefs component)

  -- and its numbers at all frames, with the switches behind the marks of all frames
  unfoldable pub column_of : List ℕ → List Float → ℕ → List Float
  unfolding fill parmgen matrix side solved
  column_of marks gv component = fill s.fill (voiced_in s widths records ds) (component_values (part (total ds) (count (voiced_in s widths records ds)) marks) gv component)

-- the first c columns of v stand in the trajectory
pub record Columned (f : ℕ → List Float) (v c : ℕ) (out : List Float) : Type 0 where
  pub stands : (p : ℕ) → p < length out → p % v < c → elem out p ≡ elem (f (p % v)) (p / v)
