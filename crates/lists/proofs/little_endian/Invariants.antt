use Rattle.lists.proofs.Bytes.{Reading}
use Rattle.lists.proofs.little_endian.Given as goal

abbrev pub invariant-loop-i : goal.invariant-loop-i
invariant-loop-i l = Reading l.said l.i l.number
