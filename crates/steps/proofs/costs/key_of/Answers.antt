use borrow.Author.Tests.{lt-ltb, le-ltb}
use Rattle.steps.specs.Steps.{key_of}
use Rattle.steps.proofs.costs.key_of.Goals as goal

pub returns-then-up : goal.returns-then-up
unfolding key_of
returns-then-up c = rw (c.if-up.true, c.cost.ensures)

pub returns-then-d-shortest : goal.returns-then-d-shortest
unfolding key_of
returns-then-d-shortest c = rw (c.if-up.false, lt-ltb c.args.shortest c.args.d c.if-d-shortest.true, c.cost-then-d-shortest.ensures)

pub returns : goal.returns
unfolding key_of
returns c = rw (c.if-up.false, le-ltb c.args.shortest c.args.d c.if-d-shortest.false)
