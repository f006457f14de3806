use Prim.Native.Nat.{◌≤◌}
use native.Mathlib.Omega.{arith}
use Rattle.lists.specs.Sizes.{most_states}
use Rattle.steps.proofs.Order.{sooner_in}
use Rattle.steps.proofs.Playing.{sized, ready-same, playing, child_in, children_fit, playing-next, played}
use Rattle.steps.proofs.tree.play_all.Goals as goal
use Rattle.steps.proofs.tree.play_all.Goals.{At-loop-i}

-- a node's place is far from the largest number
small : (c : At-loop-i) → c.loop-i.i ≤ most_states
small c = omega (arith, sized _ _ c.requires, c.requires.few, c.loop-i.invariant.high, c.loop-i.invariant.long)

pub loop-i-init : goal.loop-i-init
loop-i-init c = playing _ _ _ _ c.requires

pub overflow_mul-i : goal.overflow_mul-i
overflow_mul-i c = omega (arith, small (goal.at.overflow_mul-i c).At-loop-i)

pub entry_at-left-requires : goal.entry_at-left-requires
entry_at-left-requires c =
    record { ready = ready-same _ _ _ c.loop-i.invariant.durations c.requires; i_in_bounds = child_in _ _ _ _ c.requires _ _ c.loop-i.invariant c.loop-i-test.true _ (omega arith) (omega arith) }

pub overflow_mul-i-in-loop-i : goal.overflow_mul-i-in-loop-i
overflow_mul-i-in-loop-i c = omega (arith, small (goal.at.overflow_mul-i-in-loop-i c).At-loop-i)

pub overflow_add-i : goal.overflow_add-i
overflow_add-i c = omega (arith, small (goal.at.overflow_add-i c).At-loop-i)

pub entry_at-right-requires : goal.entry_at-right-requires
entry_at-right-requires c =
    record { ready = ready-same _ _ _ c.loop-i.invariant.durations c.requires; i_in_bounds = child_in _ _ _ _ c.requires _ _ c.loop-i.invariant c.loop-i-test.true _ (omega arith) (omega arith) }

pub sooner_of-winner-requires : goal.sooner_of-winner-requires
sooner_of-winner-requires c =
    children_fit _ _ _ _ c.requires _ _ c.loop-i.invariant c.loop-i-test.true _ _ c.entry_at-left.ensures c.entry_at-right.ensures

pub put_place-requires : goal.put_place-requires
put_place-requires c =
    let f = children_fit _ _ _ _ c.requires _ _ c.loop-i.invariant c.loop-i-test.true _ _ c.entry_at-left.ensures c.entry_at-right.ensures in
    (omega (arith, c.loop-i.invariant.high, c.loop-i-test.true), sooner_in _ _ _ _ c.sooner_of-winner.ensures f.0 f.1)

pub loop-i-smaller : goal.loop-i-smaller
loop-i-smaller c = omega (arith, c.loop-i-test.true)

pub loop-i-preserved : goal.loop-i-preserved
loop-i-preserved c =
    playing-next _ _ _ _ c.requires _ _ c.loop-i.invariant c.loop-i-test.true _ _ _ c.entry_at-left.ensures c.entry_at-right.ensures c.sooner_of-winner.ensures _ c.put_place.auto.work c.put_place.ensures

pub shape_of-work : goal.shape_of-work
shape_of-work c = c.loop-i.invariant.long

pub returns : goal.returns
returns c = played _ _ _ _ c.requires _ _ c.loop-i.invariant c.loop-i-test.false
