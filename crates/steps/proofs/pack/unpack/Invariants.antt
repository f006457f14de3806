use Rattle.steps.proofs.Packs.{Unpacking}
use Rattle.steps.proofs.pack.unpack.Given as goal

abbrev pub invariant-loop-x : goal.invariant-loop-x
invariant-loop-x l = Unpacking l.initial.work l.work l.x-index
