use Rattle.std.proofs.Common.{arith}
use Rattle.duration.proofs.Estimates.{estimating, estimating-next, estimated}
use Rattle.duration.proofs.fit.estimate_duration.Goals as goal

pub loop-i-init : goal.loop-i-init
loop-i-init c = estimating _ _ _

pub loop-i-preserved : goal.loop-i-preserved
loop-i-preserved c =
    let l = c.loop-i in
    rw c.from-sum.ensures (estimating-next _ _ _ l.work l.sum l.i c.requires.workspace l.invariant _ (omega (arith, c.requires.workspace, c.loop-i-test.true)) (omega arith) c.estimate-frames.ensures)

pub returns : goal.returns
returns c = let l = c.loop-i in estimated _ _ _ l.work l.sum l.i c.requires.workspace l.invariant (omega (arith, c.requires.workspace, c.loop-i-test.false))
