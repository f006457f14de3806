use Rattle.steps.specs.Lent.{lent}
use Rattle.steps.proofs.Playing.{Rising}
use Rattle.steps.proofs.tree.play_above.Given as goal

abbrev pub invariant-loop-i : goal.invariant-loop-i
invariant-loop-i l = Rising l.way.up l.way.rho (lent l.way.states) l.initial.work l.work l.i l.winner

abbrev pub decreases-loop-i : goal.decreases-loop-i
decreases-loop-i l = l.i
