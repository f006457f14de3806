use mathlib.Core.Path.{◌≡◌, refl}
use Prim.Native.Nat.{◌+◌, ◌-◌}
use native.Mathlib.Omega.{arith}
use Rattle.solve.proofs.Orders.{less-next}
use Rattle.solve.proofs.row.forward_at.Goals as goal

pub loop-k-preserved : goal.loop-k-preserved
loop-k-preserved c = let k = c.loop-k.k in
    let e : k - 1 + 1 ≡ k = omega arith in less-next _ _ (omega arith) c.loop-k.invariant (rw e refl)
