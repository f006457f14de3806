use Rattle.read_along.specs.Format.{head_bytes, span_bytes, bytes_of_span}
use Rattle.read_along.proofs.Lengths.{span-long}
use Rattle.read_along.proofs.Passes.{Spanning}
use Rattle.read_along.proofs.file.put_spans.Given as goal

abbrev pub invariant-loop-i : goal.invariant-loop-i
invariant-loop-i l = Spanning l.words.labels.now l.words.nstate l.words.durations.now bytes_of_span span_bytes head_bytes span-long l.initial.out l.out l.here l.i
