use Rattle.steps.proofs.Packs.{unpacking, unpacking-next, unpacked}
use Rattle.std.proofs.Common.{arith}
use Rattle.steps.proofs.pack.unpack.Goals as goal

pub loop-x-init : goal.loop-x-init
loop-x-init c = unpacking _

pub loop-x-preserved : goal.loop-x-preserved
loop-x-preserved c = unpacking-next _ _ _ c.loop-x.invariant (omega (arith, c.loop-x.auto.work, c.loop-x-test.true))

pub returns : goal.returns
returns c = unpacked _ _ _ c.loop-x.invariant (omega (arith, c.loop-x.auto.work, c.loop-x-test.false))
