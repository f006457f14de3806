-- How runs are found, state by state.
use Rattle.std.specs.Prelude.{◌≡◌, Option, Bool, true, false, cond, not, List, [], ◌∷◌, ◌++◌, ℕ, zero, suc, ◌-◌, ◌*◌, ◌≤◌, ◌<◌, ltb, eqb, length, take, drop, replicate, Float}
use Rattle.lists.specs.Sizes.{most_frames}
use Rattle.lists.specs.Totals.{total}
use Rattle.lists.specs.Refusals.{or_else}
use Rattle.model.specs.Windows.{width_of, all_finite}
use Rattle.voicing.specs.Mask.{stream_mask}
use Rattle.voicing.specs.declared.Voicing.{Voicing}
use Rattle.mlpg_adjust.specs.Trajectory.{gv_on, state_size}
use Rattle.mlpg_adjust.specs.Promise.{floats_a_frame, marks_a_frame}
use Rattle.mlpg_adjust.specs.Inner.Groups.{Shaped}
use Rattle.mlpg_adjust.specs.declared.Stream.{Stream}
use Rattle.runs.specs.declared.Run.{Run}
use Rattle.runs.specs.declared.finding.Place.{Place}
use Rattle.runs.specs.declared.finding.Found.{Found}
use Rattle.runs.specs.Runs.{runs_from, runs_of}
use Rattle.runs.specs.Promise.{has_room}

-- there is a record a state, and no more frames than allowed
pub record Recorded (u : Voicing) (records : ℕ) (ds : List ℕ) : Type 0 where
  pub each : length ds * u.size ≤ records
  pub frames : total ds ≤ most_frames

-- a state of so many frames has some, and is voiced or unvoiced as asked for
abbrev pub turns_to : Bool → Bool → ℕ → Bool
turns_to voiced is zero = false
turns_to voiced true (suc d) = voiced
turns_to voiced false (suc d) = not voiced

-- a place is a state's, or that behind the last one, and its frame is that state's first
pub record Stands (ds : List ℕ) (p : Place) : Type 0 where
  pub within : p.state ≤ length ds
  pub framed : p.frame ≡ total (take p.state ds)

-- frames begin so, or there are none
abbrev pub Starts : Bool → List Bool → Type 0
Starts b [] = Unit {0}
Starts b (c ∷ cs) = c ≡ b

-- from place p the frames up to place e are not as asked for, and the one there is
pub record Reaches (voiced : Bool) (ds : List ℕ) (mask : List Bool) (p e : Place) : Type 0 where
  pub stands : Stands ds e
  pub later : p.state ≤ e.state
  pub forth : p.frame ≤ e.frame
  pub between : drop p.frame mask ≡ replicate (e.frame - p.frame) (not voiced) ++ drop e.frame mask
  pub turned : Starts voiced (drop e.frame mask)

-- a run of n frames from frame p on, and then others; none where it has no frames
abbrev pub run_then : ℕ → ℕ → List Run → List Run
run_then p zero rest = []
run_then p (suc n) rest = record { first = p; frames = suc n } ∷ rest

-- a found run, and how many frames it has
abbrev pub run_of : Found → Run
run_of f = record { first = f.begin.frame; frames = f.end.frame - f.begin.frame }

-- it is run number `number`, and the others follow from its end on
pub record FoundAt (ds : List ℕ) (mask : List Bool) (f : Found) : Type 0 where
  pub begins : Stands ds f.begin
  pub ends : Reaches false ds mask f.begin f.end
  pub before : f.number ≤ length (runs_of mask)
  pub rest : drop f.number (runs_of mask) ≡ run_then f.begin.frame (f.end.frame - f.begin.frame) (runs_from false f.end.frame (drop f.end.frame mask))

-- 20, 21 and 22, of a run of so many frames
abbrev pub stays_refusal : Option Float → ℕ → List ℕ → ℕ
stays_refusal gv frames widths = or_else (cond (gv_on gv) 20 0) (or_else (cond (eqb frames 0) 21 0) (cond (ltb 1 (width_of widths 0)) 22 0))

-- and 6 before them
abbrev pub found_refusal : Stream → List ℕ → ℕ → ℕ → ℕ → ℕ → ℕ
found_refusal s widths frames out work marks = or_else (cond (has_room s.v frames out work marks) 0 6) (stays_refusal s.gv frames widths)

-- nothing is refused of the run
pub record Renders (s : Stream) (widths : List ℕ) (coefs records : List Float) (ds : List ℕ) (f : Found) (out work : List Float) (marks : List ℕ) : Type 0 where
  pub shaped : Shaped s widths coefs records ds
  pub fine : all_finite coefs ≡ true
  pub off : gv_on s.gv ≡ false
  pub found : FoundAt ds (stream_mask (state_size s widths) records s.threshold ds) f
  pub some : 0 < (run_of f).frames
  pub numbers : (run_of f).frames * s.v ≤ length out
  pub floats : (run_of f).frames * floats_a_frame ≤ length work
  pub counts : (run_of f).frames * marks_a_frame ≤ length marks
