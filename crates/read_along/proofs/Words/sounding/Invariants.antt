use Rattle.read_along.proofs.Passes.{Searching}
use Rattle.read_along.proofs.Words.sounding.Given as goal

abbrev pub invariant-loop-i : goal.invariant-loop-i
invariant-loop-i l = Searching l.self.labels.now l.self.nstate l.self.durations.now l.frame l.start l.i
