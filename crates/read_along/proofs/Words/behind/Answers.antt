use Rattle.std.proofs.Common.{◌+◌, ◌≤◌, length, arith}
use Rattle.lists.specs.Sizes.{most_frames}
use Rattle.read_along.specs.Words.{states_of}
use Rattle.read_along.proofs.Steps.{step-within, step_small, stepped}
use Rattle.read_along.proofs.Words.behind.Goals as goal
use Rattle.read_along.proofs.Words.behind.Goals.{After-total_u32-frames, Start}

-- the states of the word lie in the durations
within : (c : Start) → c.args.here.state + states_of c.args.self.labels.now c.args.self.nstate c.args.word ≤ length c.args.self.durations.now
within c = step-within _ _ _ c.requires.0 _ c.requires.1 _ c.requires.2

pub overflow_add-state : goal.overflow_add-state
overflow_add-state c = omega (arith, within (goal.at.overflow_add-state c).Start, c.requires.0.states)

pub offset_bounds-self-from : goal.offset_bounds-self-from
offset_bounds-self-from c = omega (arith, within (goal.at.offset_bounds-self-from c).Start, c.requires.0.states)

pub slice_bounds-total_u32-end : goal.slice_bounds-total_u32-end
slice_bounds-total_u32-end c = omega (arith, within (goal.at.slice_bounds-total_u32-end c).Start)

-- its frames are added
small : (c : After-total_u32-frames) → c.args.here.frame + c.total_u32-frames.result ≤ most_frames
small c = let p = c.requires in step_small _ _ _ p.0 _ p.1 _ p.2 _ c.total_u32-frames.ensures

pub overflow_cast-result : goal.overflow_cast-result
overflow_cast-result c = omega (arith, small (goal.at.overflow_cast-result c).After-total_u32-frames)

pub overflow_add-result : goal.overflow_add-result
overflow_add-result c = omega (arith, small (goal.at.overflow_add-result c).After-total_u32-frames)

pub returns : goal.returns
returns c = let p = c.requires in stepped _ _ _ p.0 _ p.1 _ p.2 _ c.total_u32-frames.ensures
