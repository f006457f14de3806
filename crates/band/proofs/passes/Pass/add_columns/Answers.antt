use native.Mathlib.Omega.{arith}
use Rattle.band.proofs.Columns.{columns_none, columns_next, columns_all}
use Rattle.band.proofs.passes.Pass.add_columns.Goals as goal
use Rattle.band.proofs.passes.Pass.add_columns.Goals.{In-loop-j}

pub loop-j-init : goal.loop-j-init
loop-j-init c =
    let n = c.next_tap-j.ensures in
    (n.inside, n.tap, columns_none c.args.self.taps.now c.args.self.u c.args.self.b c.args.m.now c.requires _ n)

pub loop-j-preserved-then-i-whole : goal.loop-j-preserved-then-i-whole
loop-j-preserved-then-i-whole c =
    let l = c.loop-j in
    let n = c.next_tap-j-then-i-whole.ensures in
    let k = columns_next c.args.self.taps.now c.args.self.u c.args.self.b c.args.m.now l.m _ c.requires l.j _ _ (omega (arith, c.next_tap-i.ensures.behind)) n l.invariant.2 c.add_pair.ensures in
    (n.inside, n.tap, k)

pub loop-j-preserved : goal.loop-j-preserved
loop-j-preserved c =
    let l = c.loop-j in
    let n = c.next_tap-i.ensures in
    let k = columns_next c.args.self.taps.now c.args.self.u c.args.self.b c.args.m.now l.m _ c.requires l.j _ _ (omega arith) n l.invariant.2 c.add_column.ensures in
    (n.inside, n.tap, k)

pub returns : goal.returns
returns c =
    columns_all c.args.self.taps.now c.args.self.u c.args.self.b c.args.m.now c.requires _ _ c.loop-j-test.false c.loop-j.invariant.2
