use mathlib.Core.Path.{◌≡◌, refl}
use Prim.Native.Nat.{◌+◌, ◌-◌, ◌*◌}
use native.Mathlib.Nat.{add-zero}
use native.Mathlib.Omega.{arith}
use Rattle.solve.proofs.Orders.{less-next}
use Rattle.solve.proofs.row.reduced_at.Goals as goal

pub loop-k-preserved : goal.loop-k-preserved
loop-k-preserved c = let s = c.args in
    let k = c.loop-k.k in
    let e : k - 1 + 1 ≡ k = omega arith in
    let i : (s.t - k) * s.w + s.i + k ≡ (s.t - k) * s.w + (s.i + k) = omega arith in
    less-next _ _ (omega arith) c.loop-k.invariant (rw (e, i, add-zero) refl)
