-- What is left decides.
use Rattle.replay.proofs.Held.{Agreed}
use Rattle.replay.proofs.compare.holds.Given as goal

abbrev pub invariant-loop-i : goal.invariant-loop-i
invariant-loop-i g l = Agreed g.T.Numbered.number_of l.mark l.s l.right l.i
