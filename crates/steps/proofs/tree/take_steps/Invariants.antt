use Rattle.steps.specs.Lent.{lent}
use Rattle.steps.proofs.Playing.{Tended}
use Rattle.steps.proofs.tree.take_steps.Given as goal

abbrev pub invariant-loop : goal.invariant-loop
invariant-loop l = Tended l.way.up l.way.rho (lent l.way.states) l.fn.work l.work l.counter
