use Rattle.voicing.proofs.Distances.{Measuring}
use Rattle.voicing.proofs.mask.left_distances.Given as goal

abbrev pub invariant-loop-f : goal.invariant-loop-f
invariant-loop-f l = Measuring l.flags l.left l.f l.run
