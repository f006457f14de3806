use Rattle.steps.proofs.Playing.{packed-ready, tended, tended-asks, tended-next}
use Rattle.std.proofs.Common.{◌∙◌, arith}
use Rattle.steps.proofs.Stepping.{stepped_all}
use Rattle.steps.proofs.tree.take_steps.Goals as goal

pub play_all-requires : goal.play_all-requires
play_all-requires c = packed-ready _ _ c.requires.ready

pub loop-init : goal.loop-init
loop-init c = tended _ _ _ _ _ c.requires.ready c.play_all.ensures

pub step_once-requires : goal.step_once-requires
step_once-requires c =
    let a = tended-asks _ _ _ _ _ _ _ c.requires.ready c.requires.room c.loop-test.true c.loop.invariant in
    record { ready = a.0; room_for = a.1; standing = c.loop.invariant.tree }

pub loop-preserved : goal.loop-preserved
loop-preserved c = tended-next _ _ _ _ _ _ _ c.loop.invariant c.step_once.ensures

pub returns : goal.returns
returns c = c.unpack.ensures ∙ c.loop.invariant.durations ∙ stepped_all _ _ _ _ _ _ (omega (arith, c.loop-test.false, c.loop.auto.counter-end))
