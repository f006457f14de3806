use Rattle.std.proofs.Common.{refl, ◌+◌, ◌≤◌, length, arith}
use Rattle.spool.proofs.Spans.{span_fits}
use Rattle.spool.proofs.Ways.{part_says, empty-says}
use Rattle.spool.proofs.excerpt.Goals as goal
use Rattle.spool.proofs.excerpt.Goals.{In-Ok}

-- the span lies in the trajectory
fits : (c : In-Ok) → c.in-Ok.span.first + c.in-Ok.span.count ≤ length c.args.trajectory.now
fits c =
    let s = c.excerpt_span in
    let a = c.args in
    span_fits a.trajectory.now a.durations.now a.v a.state s.result s.ensures _ c.in-Ok.is

pub overflow_add-end : goal.overflow_add-end
overflow_add-end c = omega (arith, fits (goal.at.overflow_add-end c).In-Ok)

pub offset_bounds-trajectory-start : goal.offset_bounds-trajectory-start
offset_bounds-trajectory-start c = omega (arith, fits (goal.at.offset_bounds-trajectory-start c).In-Ok)

pub slice_bounds-result-end-2 : goal.slice_bounds-result-end-2
slice_bounds-result-end-2 c = omega (arith, fits (goal.at.slice_bounds-result-end-2 c).In-Ok)

pub returns-in_default : goal.returns-in_default
returns-in_default c =
    let s = c.excerpt_span in
    let a = c.args in
    empty-says a.trajectory a.durations.now a.v a.state s.result s.ensures _ c.in_default.is _ refl refl

pub returns : goal.returns
returns c =
    let s = c.excerpt_span in
    let a = c.args in
    part_says a.trajectory a.durations.now a.v a.state s.result s.ensures _ c.in-Ok.is _ refl refl
