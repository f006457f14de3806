use Rattle.steps.specs.Lent.{lent}
use Rattle.steps.proofs.Playing.{Playing}
use Rattle.steps.proofs.tree.play_all.Given as goal

abbrev pub invariant-loop-i : goal.invariant-loop-i
invariant-loop-i l = Playing l.way.up l.way.rho (lent l.way.states) l.initial.work l.work l.i
