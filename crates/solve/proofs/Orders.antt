-- Laws of the ordered difference `less`.
use mathlib.Core.Path.{◌≡◌, refl}
use Prim.Native.Nat.{ℕ, zero, suc, ◌+◌, ◌-◌, ◌<◌}
use native.Mathlib.Omega.{arith}
use lib.Ieee.{Float, binary64, sub}
use Rattle.solve.specs.Sums.{less}

-- a loop whose turns are counted from 1 has taken those before turn k off x, and takes y off
pub less-next : (x : Float) (T : ℕ → Float) {r y : Float} {k : ℕ} → 0 < k → r ≡ less x T (k - 1) → y ≡ T (k - 1) → sub binary64 r y ≡ less x T (k + 1 - 1)
unfolding less
less-next x T {r} {y} {k} h s e = let o : k + 1 - 1 ≡ suc (k - 1) = omega arith in rw (o, s, e)

-- only the terms count
pub less-same : (x : Float) (T S : ℕ → Float) (k : ℕ) → ((i : ℕ) → i < k → T i ≡ S i) → less x T k ≡ less x S k
unfolding less
less-same x T S zero h = refl
less-same x T S (suc k) h = rw (less-same x T S k (λ i l. h i (omega arith)), h k (omega arith))
