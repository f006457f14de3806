use native.Mathlib.Omega.{arith}
use Rattle.band.proofs.Windows.{added-first, added_next, added-last}
use Rattle.band.proofs.row.Window.add.Goals as goal

pub loop-f-init : goal.loop-f-init
loop-f-init c = let s = c.args in added-first s.self.taps.now s.self.ivars.now s.self.means.now s.t s.row.now s.right _ (omega (arith, c.min.ensures))

pub loop-f-preserved : goal.loop-f-preserved
loop-f-preserved c =
    let s = c.args in
    let l = c.loop-f in
    let e = c.add_frame-sum.ensures in
    added_next s.self.taps.now s.self.ivars.now s.self.means.now s.t s.row.now l.row _ s.right l.sum _ l.f l.invariant e.0 e.1

pub returns : goal.returns
returns c = let s = c.args in
    let l = c.loop-f in
    let k = added-last s.self.taps.now s.self.ivars.now s.self.means.now s.t s.row.now l.row s.right l.sum l.f (omega arith) l.invariant in (k.row_so, k.sum_so)
