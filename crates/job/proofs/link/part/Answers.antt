use native.Mathlib.Omega.{arith}
use Rattle.std.proofs.lemmas.Result.{err_from_is_err_and}
use Rattle.job.proofs.LinkWays.{came-refused, part-refused, came-room, came-within, part-taken}
use Rattle.job.proofs.link.part.Goals as goal

pub returns-in_err-came : goal.returns-in_err-came
returns-in_err-came c =
    let p = err_from_is_err_and c.from_residual.result c.from_residual.ensures.1 in
    rw (p.1, p.2) (part-refused _ _ _ (came-refused _ _ c.in_err-came.ensures))

pub overflow_sub-came : goal.overflow_sub-came
overflow_sub-came c = came-room _ _ c.in_ok-came.ensures

pub overflow_add-came : goal.overflow_add-came
overflow_add-came c = let h = came-room _ _ c.in_ok-came.ensures in record { fits = omega arith }

-- the part begins within the memory
pub slice_bounds-copy-count : goal.slice_bounds-copy-count
slice_bounds-copy-count c = came-within _ _ c.in_ok-came.ensures

pub slice_bounds-copy-start : goal.slice_bounds-copy-start
slice_bounds-copy-start c = came-within _ _ c.in_ok-came.ensures

pub stage-requires : goal.stage-requires
stage-requires c =
    omega (arith, c.min-more.ensures, came-room _ _ c.in_ok-came.ensures)

pub returns : goal.returns
returns c =
    part-taken _ _ c.in_ok-came.ensures _ _ _ _ _ c.min-more.ensures c.stage.ensures c.copy.ensures c.put_little_endian.ensures
