use mathlib.Core.Path.{◌≡◌, refl, ap, ◌∙◌}
use Prim.Native.Nat.{◌-◌}
use native.Mathlib.Omega.{arith}
use Rattle.lists.specs.Build.{over}
use Rattle.lists.proofs.Orders.{over-step}
use Rattle.band.proofs.Columns.{multiplied, side-done, terms_done}
use Rattle.band.proofs.passes.Pass.add_terms.Goals as goal
use Rattle.band.proofs.passes.Pass.add_terms.Goals.{In-loop-t}

pub loop-t-init : goal.loop-t-init
unfolding over
loop-t-init c = refl

pub loop-t-preserved : goal.loop-t-preserved
loop-t-preserved c =
    let l = c.loop-t in
    ap (multiplied _ c.args.self.u c.args.self.mean _ l.t) l.invariant ∙ over-step _ l.t c.args.m.now

pub returns : goal.returns
returns c =
    let l = c.loop-t in
    let e : l.t ≡ c.args.self.b.to - c.args.self.b.from = omega (arith, c.loop-t-test.false) in
    terms_done c.args.self.taps.now c.args.self.u c.args.self.mean c.args.self.b c.args.m.now c.requires.2 c.requires.1 l.m _
    (side-done c.args.self.taps.now c.args.self.u c.args.self.mean c.args.self.b c.args.m.now c.requires.2 c.requires.1 l.m (rw e at l.invariant)) c.add_columns.ensures
