use native.Mathlib.Omega.{arith}
use Rattle.steps.proofs.Order.{sooner_in}
use Rattle.steps.proofs.Playing.{sized, ready-same, rising, leaf_in, facing_in, facing_fit, rising-next, risen}
use Rattle.steps.proofs.tree.play_above.Goals as goal

pub overflow_add-i : goal.overflow_add-i
overflow_add-i c = omega (arith, sized _ _ c.requires.ready, c.requires.ready.few, c.requires.p_in_bounds)

pub entry_at-winner-requires : goal.entry_at-winner-requires
entry_at-winner-requires c = record { ready = c.requires.ready; i_in_bounds = leaf_in _ _ c.requires.ready _ c.requires.p_in_bounds }

pub loop-i-init : goal.loop-i-init
loop-i-init c = rising _ _ _ _ c.requires.ready _ _ c.requires.p_in_bounds c.requires.path c.entry_at-winner.ensures

pub overflow_add-i-in-loop-i : goal.overflow_add-i-in-loop-i
overflow_add-i-in-loop-i c = omega (arith, c.requires.ready.few, c.loop-i.invariant.climb.high)

pub overflow_sub-i : goal.overflow_sub-i
overflow_sub-i c = omega (arith, c.loop-i-test.true)

pub entry_at-other-requires : goal.entry_at-other-requires
entry_at-other-requires c =
    record { ready = ready-same _ _ _ c.loop-i.invariant.durations c.requires.ready; i_in_bounds = facing_in _ _ _ _ c.requires.ready _ _ _ c.loop-i.invariant c.loop-i-test.true }

pub sooner_of-winner-requires : goal.sooner_of-winner-requires
sooner_of-winner-requires c =
    facing_fit _ _ _ _ c.requires.ready _ _ _ c.loop-i.invariant c.loop-i-test.true _ c.entry_at-other.ensures

pub put_place-requires : goal.put_place-requires
put_place-requires c =
    let f = facing_fit _ _ _ _ c.requires.ready _ _ _ c.loop-i.invariant c.loop-i-test.true _ c.entry_at-other.ensures in
    (omega (arith, sized _ _ c.requires.ready, c.loop-i.invariant.long, c.loop-i.invariant.climb.high), sooner_in _ _ _ _ c.sooner_of-winner.ensures f.0 f.1)

pub loop-i-smaller : goal.loop-i-smaller
loop-i-smaller c = omega (arith, c.loop-i-test.true)

pub loop-i-preserved : goal.loop-i-preserved
loop-i-preserved c =
    rising-next _ _ _ _ c.requires.ready _ _ _ c.loop-i.invariant c.loop-i-test.true _ c.entry_at-other.ensures _ c.sooner_of-winner.ensures _ c.put_place.auto.work c.put_place.ensures

pub shape_of-work : goal.shape_of-work
shape_of-work c = c.loop-i.invariant.long

pub returns : goal.returns
returns c = risen _ _ _ _ c.requires.ready _ _ _ c.loop-i.invariant c.loop-i-test.false
