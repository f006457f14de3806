use native.Mathlib.Omega.{arith}
use Rattle.std.proofs.lemmas.Result.{err_from_is_err_and}
use Rattle.job.proofs.LinkWays.{came-refused, end_refused, came-room, came-within, end-taken}
use Rattle.job.proofs.link.end.Goals as goal

pub returns-in_err-to : goal.returns-in_err-to
returns-in_err-to c =
    let p = err_from_is_err_and c.from_residual.result c.from_residual.ensures.1 in
    rw (p.1, p.2) (end_refused _ _ _ _ (came-refused _ _ c.in_err-to.ensures))

pub overflow_add-to : goal.overflow_add-to
overflow_add-to c = let h = came-room _ _ c.in_ok-to.ensures in record { fits = omega arith }

pub slice_bounds-answer-end : goal.slice_bounds-answer-end
slice_bounds-answer-end c = came-within _ _ c.in_ok-to.ensures

pub returns : goal.returns
returns c =
    end-taken _ _ c.in_ok-to.ensures _ _ c.answer-answer.result _ _ _ _ c.answer-answer.ensures c.stage.ensures c.put_little_endian.ensures
