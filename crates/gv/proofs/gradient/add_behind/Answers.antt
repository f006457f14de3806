use borrow.Author.Tests.{le-leb, lt-leb}
use Rattle.gv.specs.Gv.{plus_left}
use Rattle.gv.proofs.gradient.add_behind.Goals as goal

pub returns-then-i-t : goal.returns-then-i-t
unfolding plus_left
returns-then-i-t c = let s = c.args in rw (le-leb s.i s.t c.if-i-t.true)

pub returns : goal.returns
unfolding plus_left
returns c = let s = c.args in rw (lt-leb s.i s.t c.if-i-t.false)
