-- The numbers of refused calls: the smallest that applies, 0 for none. Those that promises name are shut to the crates above, which know them by the laws below.
use Rattle.std.specs.Prelude.{cond, List, ℕ, ◌*◌, ltb, eqb, length}
use Rattle.lists.specs.Sizes.{most_states, most_frames, outside}
use Rattle.lists.specs.Totals.{total}
use Rattle.lists.specs.Refusals.{or_else}
pub mod Steps
pub mod Laws
pub mod Cases

-- RULES, Refusals: 3 for v out of range, 10 for a component that is not there; a frame is any 32-bit number
pub place_refusal : ℕ → ℕ → ℕ
place_refusal component v = cond (outside v) 3 (cond (ltb component v) 0 10)

-- RULES, Refusals: 3 for too many states
abbrev pub states_refusal : ℕ → ℕ
states_refusal states = cond (ltb most_states states) 3 0

-- RULES, Refusals: and for v out of range
abbrev pub counts_refusal : ℕ → ℕ → ℕ
counts_refusal states v = or_else (states_refusal states) (cond (outside v) 3 0)

-- RULES, Refusals: 5 for more than 65,536 frames
abbrev pub frames_refusal : ℕ → ℕ
frames_refusal frames = cond (ltb most_frames frames) 5 0

-- RULES, Refusals: 4 unless a trajectory has v numbers for each frame; then 5
abbrev pub shape_refusal : ℕ → ℕ → ℕ → ℕ
shape_refusal numbers frames v = or_else (cond (eqb numbers (frames * v)) 0 4) (frames_refusal frames)

-- RULES, Refusals: of durations alone 3 and 5
pub durations_refusal : List ℕ → ℕ
durations_refusal durations = or_else (states_refusal (length durations)) (frames_refusal (total durations))

-- RULES, Refusals: of a trajectory with its durations 3, 4 and 5
pub trajectory_refusal : ℕ → List ℕ → ℕ → ℕ
trajectory_refusal numbers durations v = or_else (counts_refusal (length durations) v) (shape_refusal numbers (total durations) v)

-- RULES, Refusals: then 10 for a state that is not there
pub excerpt_refusal : ℕ → List ℕ → ℕ → ℕ → ℕ
excerpt_refusal numbers durations v state = or_else (trajectory_refusal numbers durations v) (cond (ltb state (length durations)) 0 10)
