use Rattle.std.proofs.Common.{arith}
use lib.Ieee.{nan}
use Rattle.model.specs.Mixing.{more_by}
use Rattle.model.proofs.Adding.{shorter_next, shorter_done}
use Rattle.model.proofs.voice.model.add_scaled.Goals as goal

pub loop-i-preserved : goal.loop-i-preserved
loop-i-preserved c =
    let l = c.loop-i in
    let a = c.args in
    rw c.one_nan.ensures (shorter_next (more_by a.weight) a.rhs.now _ l.lhs l.i l.invariant nan (omega arith) (omega arith))

pub returns : goal.returns
returns c =
    let l = c.loop-i in
    let a = c.args in
    shorter_done (more_by a.weight) a.rhs.now _ l.lhs l.i l.invariant (omega arith)
