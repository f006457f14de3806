use Prim.Native.Nat.{◌<◌}
use native.Mathlib.Omega.{arith}
use lib.ListN.{length}
use Rattle.steps.proofs.Stepping.{found_in, found-may, found-step}
use Rattle.steps.proofs.scan.step_once.Goals as goal
use Rattle.steps.proofs.scan.step_once.Goals.{After-least_of-i}

-- where `least_of` has returned: its place is one of the states
inside : (c : After-least_of-i) → c.least_of-i.result < length c.args.work.now
inside c = found_in _ _ _ _ c.requires.ready _ c.least_of-i.ensures

pub offset_bounds-work-i : goal.offset_bounds-work-i
offset_bounds-work-i c = omega (arith, inside (goal.at.offset_bounds-work-i c).After-least_of-i)

pub bounds-work-i : goal.bounds-work-i
bounds-work-i c = omega (arith, inside (goal.at.bounds-work-i c).After-least_of-i)

pub moved_one-requires : goal.moved_one-requires
moved_one-requires c =
    found-may _ _ _ _ c.requires.ready _ c.least_of-i.ensures c.requires.room_for

pub offset_bounds-work-i-2 : goal.offset_bounds-work-i-2
offset_bounds-work-i-2 c = omega (arith, inside (goal.at.offset_bounds-work-i-2 c).After-least_of-i)

pub bounds-work-i-2 : goal.bounds-work-i-2
bounds-work-i-2 c = omega (arith, inside (goal.at.bounds-work-i-2 c).After-least_of-i)

pub returns : goal.returns
returns c = found-step _ _ _ _ c.requires.ready _ c.least_of-i.ensures _ c.moved_one.ensures
