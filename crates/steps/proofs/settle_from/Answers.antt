use Rattle.steps.proofs.Alone.{alone_has, alone-settled}
use Rattle.steps.proofs.Stepping.{settle-room, settle-steps}
use Rattle.steps.proofs.settle_from.Goals as goal

pub overflow_sub-work : goal.overflow_sub-work
overflow_sub-work c =
    let f = c.in-Some.ensures in
    rw c.abs_diff-steps.ensures (alone_has c.args.rho _ _ _ _ c.requires.ready c.requires.aim c.if-sum-target.true _ f.0 f.1)

pub returns-in-Some : goal.returns-in-Some
returns-in-Some c =
    let f = c.in-Some.ensures in
    rw c.abs_diff-steps.ensures (alone-settled _ _ _ _ _ c.requires.ready c.requires.aim c.if-sum-target.true _ f.0 f.1)

pub take_steps-requires : goal.take_steps-requires
take_steps-requires c = record { ready = c.requires.ready; room = settle-room c.args.rho _ _ _ _ c.requires.ready c.requires.aim _ c.abs_diff-steps.ensures }

pub returns-then-is_short : goal.returns-then-is_short
returns-then-is_short c = settle-steps _ _ _ _ _ c.requires.ready c.requires.aim _ _ c.abs_diff-steps.ensures c.take_steps.ensures

pub take_steps-requires-2 : goal.take_steps-requires-2
take_steps-requires-2 c = record { ready = c.requires.ready; room = settle-room c.args.rho _ _ _ _ c.requires.ready c.requires.aim _ c.abs_diff-steps.ensures }

pub returns : goal.returns
returns c = settle-steps _ _ _ _ _ c.requires.ready c.requires.aim _ _ c.abs_diff-steps.ensures c.take_steps-2.ensures
