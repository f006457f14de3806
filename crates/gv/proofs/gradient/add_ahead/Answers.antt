use Prim.Native.Nat.{◌+◌}
use borrow.Author.Tests.{lt-ltb, le-ltb}
use lib.ListN.{length}
use Rattle.gv.specs.Gv.{plus_right}
use Rattle.gv.proofs.gradient.add_ahead.Goals as goal

pub returns-then-t-i : goal.returns-then-t-i
unfolding plus_right
returns-then-t-i c = let s = c.args in rw (lt-ltb (s.t + s.i) (length s.par.now) c.if-t-i.true)

pub returns : goal.returns
unfolding plus_right
returns c = let s = c.args in rw (le-ltb (s.t + s.i) (length s.par.now) c.if-t-i.false)
