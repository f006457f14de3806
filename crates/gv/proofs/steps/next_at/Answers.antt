use Rattle.gv.proofs.steps.next_at.Goals as goal

pub returns-then-b : goal.returns-then-b
returns-then-b c = rw c.if-b.true

pub returns : goal.returns
returns c = rw c.if-b.false
