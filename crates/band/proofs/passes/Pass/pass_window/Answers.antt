use mathlib.Core.Path.{◌≡◌}
use Prim.Native.Nat.{◌-◌}
use native.Mathlib.Omega.{arith}
use Rattle.band.proofs.Taps.{taps-none, taps-next, taps-all}
use Rattle.band.proofs.passes.Pass.pass_window.Goals as goal

pub loop-k-preserved : goal.loop-k-preserved
loop-k-preserved c =
    let l = c.loop-k in
    let k = taps-next c.args.self.b c.args.self.taps.now c.args.self.u c.args.self.mean c.args.m.now c.requires.1 c.requires.2 (omega (arith, c.requires.3.right-at, c.requires.3.room)) _ _ l.k (l.k - 1) (omega (arith, c.loop-k-test.true)) l.invariant c.pass_tap.ensures in
    k

pub returns : goal.returns
returns c =
    let e : c.loop-k.k ≡ 0 = omega (arith, c.loop-k-test.false) in
    taps-all c.args.self.b c.args.self.taps.now c.args.self.u c.args.self.mean c.args.m.now _ (rw e at c.loop-k.invariant)

pub loop-k-init : goal.loop-k-init
loop-k-init c = let s = c.args in taps-none s.self.b s.self.taps.now s.self.u s.self.mean s.m.now
