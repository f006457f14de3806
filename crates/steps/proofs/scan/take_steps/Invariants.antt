use Rattle.std.proofs.Common.{◌≡◌}
use Rattle.steps.specs.Lent.{lent}
use Rattle.steps.specs.Inner.Rounds.{stepped}
use Rattle.steps.proofs.scan.take_steps.Given as goal

abbrev pub invariant-loop : goal.invariant-loop
invariant-loop l = l.work ≡ stepped l.way.up l.way.rho (lent l.way.states) l.initial.work l.counter
