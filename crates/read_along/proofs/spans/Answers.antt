use Rattle.read_along.specs.Words.{spans_of}
use Rattle.read_along.proofs.Passes.{times-one}
use Rattle.read_along.proofs.spans.Goals as goal

pub returns : goal.returns
returns c =
    let a = c.args in
    rw (times-one (spans_of a.words.now a.nstate a.durations.now)) at c.scaled_spans.ensures
