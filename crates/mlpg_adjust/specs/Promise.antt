-- What the call for a trajectory promises.
use Rattle.std.specs.Prelude.{◌≡◌, Result, Bool, cond, not, ◌||◌, ◌&&◌, List, [], ◌∷◌, ℕ, ◌*◌, length, replicate, ltb, eqb, Float}
use Rattle.lists.specs.Sizes.{most_states, most_frames, outside}
use Rattle.lists.specs.Totals.{total}
use Rattle.lists.specs.Refusals.{or_else}
use Rattle.lists.specs.Answers.{Answer, answer_of, written}
use Rattle.lists.specs.Ends.{answered}
use Rattle.lists.specs.declared.Refusal.{Refusal}
use Rattle.floats.specs.Numbers.{nought}
use Rattle.model.specs.Windows.{widths_fit, all_finite}
use Rattle.mlpg_adjust.specs.Trajectory.{gv_on, state_size, numbers_of}
use Rattle.mlpg_adjust.specs.Clamps.{clamped_high, clamped_low}
use Rattle.mlpg_adjust.specs.declared.Stream.{Stream}
use Rattle.mlpg_adjust.specs.declared.refusing.Lengths.{Lengths}
use Rattle.mlpg_adjust.specs.declared.Clamped.{Clamped}

-- RULES, Forms: the number of each answer, 0 for none; and how many pairs are clamped high, and how many low
abbrev pub created : Result Clamped Refusal → Answer
created = answered (λ c. c.high ∷ c.low ∷ [])

abbrev pub created_number : Result Clamped Refusal → ℕ
created_number r = (created r).number

-- RULES, Sizes: a trajectory's work space is 48 floats and 4 whole numbers a frame
abbrev pub floats_a_frame : ℕ
floats_a_frame = 48

abbrev pub marks_a_frame : ℕ
marks_a_frame = 4

-- RULES, Refusals: an accepted call zeros that much of the work space
abbrev pub zero_floats : ℕ → List Float
zero_floats frames = replicate (frames * floats_a_frame) nought

abbrev pub zero_marks : ℕ → List ℕ
zero_marks frames = replicate (frames * marks_a_frame) 0

-- the lengths of lists that are not looked into
abbrev pub lengths_of : List Float → List Float → List ℕ → List Float → List Float → List ℕ → Lengths
lengths_of records gv switches out work marks =
    record { records = length records; gv = length gv; switches = length switches; out = length out; work = length work; marks = length marks }

-- RULES, Refusals: 3 for too many states, or v out of range
abbrev pub out_of_range : ℕ → ℕ → Bool
out_of_range v states = ltb most_states states || outside v

-- RULES, Refusals: 4 unless the GV list has v pairs and there is one switch a state. With GV off they are no input
abbrev pub gv_disagrees : Stream → ℕ → Lengths → Bool
gv_disagrees s states n = gv_on s.gv && (not (eqb n.gv (2 * s.v)) || not (eqb n.switches states))

-- RULES, Refusals: 4 for list lengths that disagree, with so many coefficients and states
unfoldable pub disagree : Stream → List ℕ → ℕ → ℕ → Lengths → Bool
unfolding total
disagree s widths coefs states n = not (eqb coefs (total widths)) || not (eqb n.records (states * state_size s widths)) || gv_disagrees s states n

-- RULES, Refusals: 6 for an output or work space that is too short
abbrev pub short : ℕ → ℕ → Lengths → Bool
short v frames n = ltb n.out (frames * v) || ltb n.work (frames * floats_a_frame) || ltb n.marks (frames * marks_a_frame)

-- RULES, Refusals: the smallest of 1 to 5 that applies, and 0 for none
unfoldable pub stream_refusal : Stream → List ℕ → List Float → List ℕ → Lengths → ℕ
unfolding widths_fit all_finite disagree total
stream_refusal s widths coefs ds n =
    or_else (cond (widths_fit widths) 0 1)
    (or_else (cond (all_finite coefs) 0 2)
    (or_else (cond (out_of_range s.v (length ds)) 3 0)
    (or_else (cond (disagree s widths (length coefs) (length ds) n) 4 0)
    (cond (ltb most_frames (total ds)) 5 0))))

-- and then 6
unfoldable pub create_refusal : Stream → List ℕ → List Float → List ℕ → Lengths → ℕ
unfolding stream_refusal total
create_refusal s widths coefs ds n = or_else (stream_refusal s widths coefs ds n) (cond (short s.v (total ds) n) 6 0)

-- `create`: the number, how many pairs are clamped, the trajectory, and the work space zeroed, its floats (`space`) and its whole numbers (`counts`)
pub record CreateSays (s : Stream) (widths : List ℕ) (coefs records : List Float) (ds : List ℕ) (gv : List Float) (switches : List ℕ) (out work : List Float) (marks : List ℕ)
    (r : Result Clamped Refusal) (out' work' : List Float) (marks' : List ℕ) : Type 0 where
  pub number : created_number r ≡ create_refusal s widths coefs ds (lengths_of records gv switches out work marks)
  pub answer : created r ≡ answer_of (created_number r) (clamped_high s widths records ds ∷ clamped_low s widths records ds ∷ [])
  pub numbers : out' ≡ written (created_number r) (numbers_of s widths coefs records ds gv switches) out
  pub space : work' ≡ written (created_number r) (zero_floats (total ds)) work
  pub counts : marks' ≡ written (created_number r) (zero_marks (total ds)) marks
