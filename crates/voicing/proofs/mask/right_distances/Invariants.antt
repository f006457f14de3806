use Rattle.voicing.proofs.Distances.{Counting}
use Rattle.voicing.proofs.mask.right_distances.Given as goal

abbrev pub invariant-loop-f : goal.invariant-loop-f
invariant-loop-f l = Counting l.flags l.right l.f l.run
