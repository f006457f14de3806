use Rattle.std.proofs.Common.{refl, ap, ◌∙◌, arith}
use Rattle.steps.specs.Steps.{step}
use Rattle.steps.specs.Lent.{lent}
use Rattle.steps.specs.Inner.Rounds.{stepped}
use Rattle.steps.proofs.Stepping.{round-ready, stepped-more, stepped_all}
use Rattle.steps.proofs.scan.take_steps.Goals as goal

pub loop-init : goal.loop-init
unfolding stepped
loop-init c = refl

pub step_once-requires : goal.step_once-requires
step_once-requires c =
    let a = round-ready _ _ _ _ c.requires.ready _ _ c.requires.room c.loop-test.true in
    record { ready = rw c.loop.invariant a.0; room_for = rw c.loop.invariant a.1 }

pub loop-preserved : goal.loop-preserved
loop-preserved c = c.step_once.ensures ∙ ap (step c.args.way.up c.args.way.rho (lent c.args.way.states)) c.loop.invariant ∙ stepped-more _ _ _ _ c.loop.counter

pub returns : goal.returns
returns c = c.loop.invariant ∙ stepped_all _ _ _ _ _ _ (omega (arith, c.loop-test.false, c.loop.auto.counter-end))
