-- The scan in two parts, and products that 64 bits hold.
use mathlib.Core.Path.{◌≡◌, ◌∙◌}
use mathlib.Core.List.{List}
use Prim.Native.Nat.{ℕ, ◌+◌, ◌-◌, ◌*◌, ◌^◌, ◌≤◌}
use native.Mathlib.Nat.{mul-le-mul}
use native.Mathlib.Omega.{arith}
use lib.ListN.{length, take, drop, get_or, length-drop, take-append-drop}
use lib.Seq.{take_all}
use Rattle.lists.specs.Totals.{total}
use Rattle.lists.proofs.Sums.{total-append, total-whole, total-under}
use Rattle.spool.specs.Inner.Sums.{Summed}

-- what `total_u32` says of durations that are few
pub summed : (ds : List ℕ) (r : ℕ) → ((i : ℕ) → get_or ds i 0 ≤ 4294967295) → length ds ≤ 4096 → r ≡ total (take (2 ^ 32) ds) → Summed ds r
summed ds r h few e =
    let w : r ≡ total ds = e ∙ total-whole ds (omega arith) in
    record { sum = w; small = omega (arith, total-under 4294967295 ds h) }

-- the frames before a place, with those from it on, are all
pub total-split : (ds : List ℕ) (at first rest : ℕ) → first ≡ total (take at ds) → rest ≡ total (take (length ds - at) (drop at ds)) → first + rest ≡ total ds
total-split ds at first rest p q =
    let l : length (drop at ds) ≤ length ds - at = omega (arith, length-drop at ds) in
    rw (p, q, take_all (length ds - at) (drop at ds) l, ← total-append (take at ds) (drop at ds), take-append-drop at ds)

-- a product of frames and v
pub product-fits : (m frames v : ℕ) → frames ≤ m → v ≤ 64 → frames * v ≤ m * 64
product-fits m frames v h k = mul-le-mul h k
