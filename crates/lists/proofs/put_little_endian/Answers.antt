use Rattle.std.proofs.Common.{arith}
use Rattle.lists.proofs.Bytes.{writing, writing-next, writing-done}
use Rattle.lists.proofs.put_little_endian.Goals as goal

pub loop-i-init : goal.loop-i-init
loop-i-init c = writing _ _ _ _

pub loop-i-preserved : goal.loop-i-preserved
loop-i-preserved c = writing-next c.loop-i.invariant (omega arith)

pub returns : goal.returns
returns c = writing-done c.loop-i.invariant (omega arith)
