use Rattle.std.proofs.Common.{arith}
use Rattle.lists.proofs.Firsts.{replacing, replacing-next, all-replaced}
use Rattle.lists.proofs.replace_u32.Goals as goal

pub loop-number-init : goal.loop-number-init
loop-number-init c = replacing _ _ _

pub loop-number-preserved : goal.loop-number-preserved
loop-number-preserved c = replacing-next c.loop-number.invariant _ (omega arith) c.instead.ensures

pub returns : goal.returns
returns c = all-replaced c.loop-number.invariant (omega arith)
