use native.Mathlib.Omega.{arith}
use lib.ListN.{length}
use Rattle.runs.proofs.Parts.{Placed, run-placed, run-said}
use Rattle.runs.proofs.rendering.render.Goals as goal
use Rattle.runs.proofs.rendering.render.Goals.{After-record_size-size}

-- where the run's records lie
places : (c : After-record_size-size) → let a = c.args in Placed a.found.begin.state a.found.end.state c.record_size-size.result (length a.inputs.records.now)
places c = run-placed _ _ _ _ _ _ _ _ _ c.requires _ c.record_size-size.ensures

pub returns : goal.returns
returns c =
    run-said _ _ _ _ _ _ _ _ _ _ _ c.requires _ c.record_size-size.ensures _ _ _ _ c.create-clamped.ensures

pub overflow_mul-first : goal.overflow_mul-first
overflow_mul-first c = omega (arith, places (goal.at.overflow_mul-first c).After-record_size-size)

pub overflow_mul-last : goal.overflow_mul-last
overflow_mul-last c = omega (arith, places (goal.at.overflow_mul-last c).After-record_size-size)

pub offset_bounds-records-first : goal.offset_bounds-records-first
offset_bounds-records-first c = omega (arith, places (goal.at.offset_bounds-records-first c).After-record_size-size)

pub slice_bounds-create-count : goal.slice_bounds-create-count
slice_bounds-create-count c = (places (goal.at.slice_bounds-create-count c).After-record_size-size).forth

pub slice_bounds-create-start : goal.slice_bounds-create-start
slice_bounds-create-start c = omega (arith, places (goal.at.slice_bounds-create-start c).After-record_size-size)

pub slice_bounds-create-end : goal.slice_bounds-create-end
slice_bounds-create-end c = (places (goal.at.slice_bounds-create-end c).After-record_size-size).within
