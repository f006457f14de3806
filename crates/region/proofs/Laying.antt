-- Laws of a layout's places.
use mathlib.Core.Path.{◌≡◌}
use Prim.Native.Nat.{ℕ, ◌+◌, ◌*◌, ◌≤◌}
use native.Mathlib.Nat.{mul-le-mul, mul_comm, add-mul}
use native.Mathlib.Omega.{arith}
use Rattle.region.specs.Region.{floats_of, size_of, places_of}
use Rattle.region.specs.Inner.Passes.{Spaced}
use Rattle.region.specs.declared.Layout.{Layout}

-- a byte times a number of 32 bits
pub byte_times : (b n : ℕ) → b ≤ 255 → n ≤ 4294967295 → b * n ≤ 1095216660225
byte_times b n h k = mul-le-mul h k

pub times_byte : (n b : ℕ) → n ≤ 4294967295 → b ≤ 255 → n * b ≤ 1095216660225
times_byte n b h k = mul-le-mul h k

-- the lists of a region follow each other
pub laid : (g : Layout) → Spaced (places_of g) g.n g.w (size_of g)
laid g = record { rows_at = omega arith; right-at = omega arith; factors-at = omega arith; values-at = omega arith; room = omega arith }

-- a region has so many floats for each of its frames
pub size-floats : (g : Layout) → size_of g ≡ g.n * floats_of g
size-floats g =
    let n : ℕ = g.n in
    let w : ℕ = g.w in
    let k : ℕ = g.windows in
    let a : k * n ≡ n * k = mul_comm k n in
    rw (a, mul_comm n (k + k + (w + 1) + (w + 1)), add-mul (k + k + (w + 1)) (w + 1) n, add-mul (k + k) (w + 1) n, add-mul k k n, add-mul w 1 n, mul_comm k n, mul_comm w n) (omega arith)
