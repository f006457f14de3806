use Rattle.read_along.proofs.Filing.{Touching}
use Rattle.read_along.proofs.file.touch.Given as goal

abbrev pub invariant-loop-i : goal.invariant-loop-i
invariant-loop-i l = Touching l.bytes l.end l.i
