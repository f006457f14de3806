use Rattle.read_along.proofs.Passes.{scaled, scaled-two, Spanning}
use Rattle.read_along.proofs.Words.put_spans.Given as goal

abbrev pub invariant-loop-i : goal.invariant-loop-i
invariant-loop-i l = Spanning l.self.labels.now l.self.nstate l.self.durations.now (scaled l.scale) 2 0 (scaled-two l.scale) l.initial.spans l.spans l.here l.i
