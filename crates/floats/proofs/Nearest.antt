-- The nearest whole number, ties away from zero: `nearest_half` is it, and nothing else is.
use mathlib.Core.Path.{◌≡◌, refl}
use mathlib.Core.Bool.{Bool}
use Prim.Native.Nat.{ℕ, ◌+◌, ◌*◌, ◌/◌, ◌≤◌, ◌<◌}
use native.Mathlib.Nat.{div-add-mod', mod-lt, mul-pos, mul_left_comm, le_antisymm, le_of_suc-le-suc, lt_of_not-le}
use native.Mathlib.Omega.{arith}
use lib.IntN.{ℤ}
use lib.Ieee.{fin, up, down}
use lib.Ieee.Fits.{down_pos}
use Rattle.lists.specs.Totals.{gap}
use Rattle.lists.proofs.Rows.{row_fits}
use Rattle.floats.specs.Rounding.{whole, signed, nearest_half, to_integral, TiesToAway}

two_pos : 0 < 2
two_pos = omega arith

module _ (a c : ℕ) (C : 0 < c) where
  abbrev n : ℕ
  n = nearest_half a c

  -- n * 2c lies within a c below 2a + c
  twice : (m : ℕ) → m * (2 * c) ≡ 2 * (m * c)
  twice m = mul_left_comm m 2 c

  under : 2 * (n * c) ≤ 2 * a + c
  unfolding nearest_half
  under = omega (arith, div-add-mod' (2 * a + c) (2 * c), twice ((2 * a + c) / (2 * c)))

  over : 2 * a + c < 2 * (n * c) + 2 * c
  unfolding nearest_half
  over = omega (arith, div-add-mod' (2 * a + c) (2 * c), mod-lt (2 * a + c) (mul-pos two_pos C), twice ((2 * a + c) / (2 * c)))

  pub nearest-half : TiesToAway a c (nearest_half a c)
  nearest-half =
      let u = under in
      let o = over in
      record { near = omega arith; away = λ e. omega arith }

  -- no other whole number is
  not-less : (m : ℕ) → TiesToAway a c m → m < n → ⊥
  not-less m t h = below (m * c) (n * c) (row_fits c m n h) under t.near t.away
    where
      below : (x y : ℕ) → x + c ≤ y → 2 * y ≤ 2 * a + c → 2 * gap x a ≤ c → (2 * gap x a ≡ c → a < x) → ⊥
      below x y r u k w =
          let e : 2 * gap x a ≡ c = omega arith in
          let z : a < x = w e in
          omega arith

  not_more : (m : ℕ) → TiesToAway a c m → n < m → ⊥
  not_more m t h = omega (arith, row_fits c n m h, over, t.near)

  pub nearest_half_only : (m : ℕ) → TiesToAway a c m → m ≡ nearest_half a c
  nearest_half_only m t = le_antisymm (le_of_suc-le-suc (lt_of_not-le (not_more m t))) (le_of_suc-le-suc (lt_of_not-le (not-less m t)))

-- of a finite float: the whole number has the float's sign, and its size is the nearest, ties away from zero
pub integral_nearest : (s : Bool) (m : ℕ) (e : ℤ) → (k : ℕ) × (to_integral (fin s m e) ≡ whole (signed s k)) × TiesToAway (m * up e) (down e) k
unfolding to_integral
integral_nearest s m e = (nearest_half (m * up e) (down e), refl, nearest-half (m * up e) (down e) (down_pos e))
