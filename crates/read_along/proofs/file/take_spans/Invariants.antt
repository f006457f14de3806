use Rattle.read_along.proofs.Filing.{Taking}
use Rattle.read_along.proofs.file.take_spans.Given as goal

abbrev pub invariant-loop-i : goal.invariant-loop-i
invariant-loop-i l = Taking l.bytes l.initial.spans l.spans l.i
