use mathlib.Core.Path.{◌≡◌, refl}
use Prim.Native.Nat.{◌+◌, ◌-◌}
use native.Mathlib.Omega.{arith}
use lib.Seq.{get_or-drop}
use lib.Ieee.{nan}
use Rattle.solve.proofs.Orders.{less-next}
use Rattle.solve.proofs.row.backward_at.Goals as goal

pub loop-k-preserved : goal.loop-k-preserved
loop-k-preserved c = let s = c.args in
    let k = c.loop-k.k in
    let e : k - 1 + 1 ≡ k = omega arith in
    let i : s.t + k ≡ s.t + 1 + (k - 1) = omega arith in
    less-next _ _ (omega arith) c.loop-k.invariant (rw (i, get_or-drop (s.t + 1) s.g.now (k - 1) nan, e) refl)
