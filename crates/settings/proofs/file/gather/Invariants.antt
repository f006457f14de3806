use Rattle.settings.proofs.Gathering.{Gathering}
use Rattle.settings.proofs.file.gather.Given as goal

abbrev pub invariant-loop-i : goal.invariant-loop-i
invariant-loop-i l = Gathering l.bytes l.voices l.settings l.held l.i
