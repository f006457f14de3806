use Rattle.steps.proofs.Alone.{Passed}
use Rattle.steps.proofs.lone.Given as goal

abbrev pub invariant-loop-i : goal.invariant-loop-i
invariant-loop-i l = Passed l.shortest l.work l.i l.place
