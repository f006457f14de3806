use borrow.Author.Tests.{eq-eqb, ne_eqb}
use Rattle.lists.proofs.instead.Goals as goal

pub returns-then-number-old : goal.returns-then-number-old
returns-then-number-old c = rw (eq-eqb _ _ c.if-number-old.true)

pub returns : goal.returns
returns c = rw (ne_eqb _ _ c.if-number-old.false)
