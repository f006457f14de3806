use mathlib.Core.Path.{sym}
use Prim.Native.Nat.{◌≤◌}
use native.Mathlib.Omega.{arith}
use lib.Seq.{length-take-le}
use Rattle.lists.specs.Sizes.{most_job_states}
use Rattle.job.proofs.Answers.{few-states, job-refused, job-room, job-few, job-done}
use Rattle.job.proofs.answer_sound.Goals as goal
use Rattle.job.proofs.answer_sound.Goals.{After-little_endian-states}

-- the number of states is read
few : (c : After-little_endian-states) → c.little_endian-states.result ≤ most_job_states
few c = few-states _ _ c.requires c.little_endian-states.ensures

pub overflow_cast-states : goal.overflow_cast-states
overflow_cast-states c = let h = few (goal.at.overflow_cast-states c).After-little_endian-states in record { fits = omega arith }

pub fit_states-answer-requires : goal.fit_states-answer-requires
fit_states-answer-requires c = few (goal.at.fit_states-answer-requires c).After-little_endian-states

pub returns-in_default : goal.returns-in_default
returns-in_default c =
    job-refused _ _ c.requires c.little_endian-states.ensures _ _ c.fit_states-answer.result _ _ c.fit_states-answer.ensures _ c.unwrap_err.ensures

pub slice_bounds-total_u32-end : goal.slice_bounds-total_u32-end
slice_bounds-total_u32-end c =
    job-room _ _ c.requires c.little_endian-states.ensures _ _ c.fit_states-answer.result _ _ c.fit_states-answer.ensures _ c.in-Ok.is

pub slice_bounds-total_u32-end-2 : goal.slice_bounds-total_u32-end-2
slice_bounds-total_u32-end-2 c = sym (length-take-le _ _ (job-room _ _ c.requires c.little_endian-states.ensures _ _ c.fit_states-answer.result _ _ c.fit_states-answer.ensures _ c.in-Ok.is))

pub overflow_cast-frames : goal.overflow_cast-frames
overflow_cast-frames c =
    let h = job-few _ _ c.requires c.little_endian-states.ensures _ _ c.fit_states-answer.result _ _ c.fit_states-answer.ensures _ c.in-Ok.is _ c.total_u32-frames.ensures in
    record { fits = omega arith }

pub returns : goal.returns
returns c =
    job-done _ _ c.requires c.little_endian-states.ensures _ _ c.fit_states-answer.result _ _ c.fit_states-answer.ensures _ c.in-Ok.is _ c.total_u32-frames.ensures
