-- IEEE 754-2019, 5.9, roundToIntegralTiesToAway, said over fractions, and the count of frames from it.
use Rattle.std.specs.Prelude.{◌≡◌, Bool, cond, ℕ, ◌+◌, ◌*◌, ◌/◌, ◌≤◌, ◌<◌, min, max, ℤ, pos, negsuc, neg_ℤ, Float}
use Rattle.std.specs.Float.{nan, inf, fin}
use Rattle.std.specs.Float.Ieee.{up, down}
use Rattle.lists.specs.Totals.{gap}

-- what rounding to a whole number gives: nothing for NaN, an infinity with its sign, or a whole number
pub data Integral : Type 0 where
  undefined : Integral
  endless : Bool → Integral
  whole : ℤ → Integral

-- a / c to the nearest whole number, a half upward
unfoldable pub nearest_half : ℕ → ℕ → ℕ
nearest_half a c = (2 * a + c) / (2 * c)

-- the whole number of size n, below zero where s is set
abbrev pub signed : Bool → ℕ → ℤ
signed s n = cond s (neg_ℤ (pos n)) (pos n)

-- roundToIntegralTiesToAway: the size goes to the nearest whole number, a half upward, so away from zero; the sign stays
unfoldable pub to_integral : Float → Integral
unfolding nearest_half
to_integral nan = undefined
to_integral (inf s) = endless s
to_integral (fin s m e) = whole (signed s (nearest_half (m * up e) (down e)))

-- RULES, Durations: at least 1 frame, and 1 for NaN and minus infinity; 65,537 stands for all that is above 65,536
unfoldable pub frames_of : Integral → ℕ
frames_of undefined = 1
frames_of (endless s) = cond s 1 65537
frames_of (whole (pos n)) = max 1 (min 65537 n)
frames_of (whole (negsuc n)) = 1

unfoldable pub rounded_of : Float → ℕ
unfolding to_integral frames_of
rounded_of x = frames_of (to_integral x)

-- n is the nearest whole number to a / c, ties away from zero: twice the distance is at most 1, and where it is 1 n lies above
pub record TiesToAway (a c n : ℕ) : Type 0 where
  pub near : 2 * gap (n * c) a ≤ c
  pub away : 2 * gap (n * c) a ≡ c → a < n * c
