use Rattle.std.proofs.Common.{◌*◌, ◌≤◌, length, sym, arith, length-take-le}
use Rattle.read_along.proofs.Steps.{start-within, start_small, started}
use Rattle.read_along.proofs.Words.start_of.Goals as goal
use Rattle.read_along.proofs.Words.start_of.Goals.{After-total_u32-labels}

-- the states before the word lie in the durations
within : (c : After-total_u32-labels) → c.total_u32-labels.result * c.args.self.nstate ≤ length c.args.self.durations.now
within c = start-within _ _ _ c.requires.0 _ c.requires.1 _ c.total_u32-labels.ensures

pub overflow_mul-state : goal.overflow_mul-state
overflow_mul-state c = omega (arith, within (goal.at.overflow_mul-state c).After-total_u32-labels, c.requires.0.states)

pub slice_bounds-total_u32-end-2 : goal.slice_bounds-total_u32-end-2
slice_bounds-total_u32-end-2 c = sym (length-take-le _ _ (within (goal.at.slice_bounds-total_u32-end-2 c).After-total_u32-labels))

pub overflow_cast-result : goal.overflow_cast-result
overflow_cast-result c =
    omega (arith, start_small _ _ _ c.requires.0 _ c.requires.1 _ c.total_u32-labels.ensures _ c.total_u32.ensures)

pub returns : goal.returns
returns c =
    started _ _ _ c.requires.0 _ c.requires.1 _ c.total_u32-labels.ensures _ c.total_u32.ensures
