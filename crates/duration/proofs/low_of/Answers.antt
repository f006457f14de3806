use Rattle.std.proofs.Common.{arith}
use Rattle.duration.proofs.Shortest.{looking, looking-next, looked, low-unfit, low-fit}
use Rattle.duration.proofs.low_of.Goals as goal

pub loop-frames-init : goal.loop-frames-init
loop-frames-init c = looking c.args.shortest.now

pub loop-frames-preserved : goal.loop-frames-preserved
loop-frames-preserved c =
    let l = c.loop-frames in
    rw c.from-sum.ensures (looking-next _ l.none l.sum l.frames-index l.invariant c.loop-frames-test.true (omega (arith, c.type_inv.shortest l.frames-index)))

pub returns-then-none-sum : goal.returns-then-none-sum
returns-then-none-sum c = let l = c.loop-frames in low-unfit _ l.none l.sum (looked _ l.none l.sum l.frames-index l.invariant c.loop-frames-test.false) c.if-none-sum.true

pub returns : goal.returns
returns c = let l = c.loop-frames in low-fit _ l.none l.sum (looked _ l.none l.sum l.frames-index l.invariant c.loop-frames-test.false) c.if-none-sum.false
