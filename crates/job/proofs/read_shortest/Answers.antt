use Rattle.job.proofs.Pairs.{ones-read, numbers-read}
use Rattle.job.proofs.read_shortest.Goals as goal

pub returns-then-version-eq1 : goal.returns-then-version-eq1
returns-then-version-eq1 c = let a = c.args in ones-read a.version a.bytes.now a.into.now _ c.if-version-eq1.true (c.fill.ensures.after (λ y h. h))

pub returns : goal.returns
returns c = let a = c.args in numbers-read a.version a.bytes.now a.into.now _ c.if-version-eq1.false c.read_numbers.ensures
