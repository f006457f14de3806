-- `rounded_of` by the value, and the value by the bit pattern.
use mathlib.Core.Path.{◌≡◌, refl, sym, ap, ◌∙◌, subst}
use mathlib.Core.Bool.{true, false, true≢false}
use Prim.Native.Nat.{ℕ, zero, suc, ◌+◌, ◌-◌, ◌*◌, ◌/◌, ◌%◌, ◌^◌, ◌≤◌, ◌<◌}
use native.Mathlib.Nat.{mul_assoc}
use native.Mathlib.Omega.{arith}
use borrow.Author.Tests.{ltb-false}
use lib.Dec.{T}
use lib.Pow.{pow_pos, pow-add}
use lib.Ieee.{Float, nan, inf, fin, binary64, up, down, odd, fits, lt, le, of_fields, of_bits, to_bits}
use lib.Ieee.Fits.{down_pos}
use lib.Ieee.Bits.{of_bits-to_bits}
use lib.Ieee.Exact.{HasValue, odd_sign}
use lib.Ieee.Positive.{positive, above, above_of_le, between, values_of_le}
use Rattle.floats.specs.Numbers.{one}
use Rattle.floats.specs.Rounding.{rounded_of, to_integral, frames_of, nearest_half}
use Rattle.floats.proofs.Halves.{half_same, half-large, half_few, frames, frames-few, frames-many, frames-some}
use Rattle.floats.proofs.Below.{nan-one, endless-below, rounded-below}
use Rattle.floats.proofs.Fields.{sign_clear, normal_is}
use Rattle.floats.proofs.Ordered.{bits_mono}
use Rattle.floats.proofs.Differences.{value_same}

-- `rounded_of` sees only the value
pub value-rounded : (v : Float) (a c : ℕ) → 0 < c → HasValue v false a c → rounded_of v ≡ frames (nearest_half a c)
unfolding rounded_of to_integral
value-rounded nan a c C h = absurd h
value-rounded (inf s) a c C h = absurd h
value-rounded (fin true m e) a c C h = absurd (true≢false h.0)
value-rounded (fin false m e) a c C h = ap frames (half_same (m * up e) (down e) a c (down_pos e) C h.1)

-- ---- the ends of the range whose counts differ: 1 and 65,537
abbrev most : Float
most = of_bits binary64 0x40f0_0010_0000_0000

one_value : HasValue one false 1 1
unfolding of_bits
one_value = (refl, refl)

most-value : HasValue most false 65537 1
unfolding of_bits
most-value = (refl, refl)

one-positive : T (positive one)
unfolding of_bits
one-positive = tt

most-positive : T (positive most)
unfolding of_bits
most-positive = tt

-- ---- below 1, and NaN
small : (x : Float) → lt one x ≡ false → rounded_of x ≡ 1
unfolding lt of_bits
small nan h = nan-one
small (inf true) h = endless-below
small (inf false) h = absurd (true≢false h)
small (fin true m e) h = rounded-below m e
small (fin false m e) h =
    value-rounded (fin false m e) (m * up e) (down e) (down_pos e) (refl, refl)
    ∙ frames-few (nearest_half (m * up e) (down e)) (half_few 1 (m * up e) (down e) (down_pos e) (omega (arith, ltb-false (1 * down e) (m * up e * 1) h)))

pub when_small : (x : Float) → lt one x ≡ false → rounded_of one ≡ rounded_of x
unfolding lt of_bits
when_small x h = small one refl ∙ sym (small x h)

-- ---- above 65,537
large : (x : Float) → T (above x) → lt x most ≡ false → rounded_of x ≡ 65537
unfolding rounded_of to_integral frames_of lt of_bits
large nan a h = absurd a
large (inf true) a h = absurd a
large (inf false) a h = refl
large (fin true m e) a h = absurd a
large (fin false m e) a h =
    frames-many (nearest_half (m * up e) (down e)) (half-large 65537 (m * up e) (down e) (down_pos e) (omega (arith, ltb-false (m * up e * 1) (65537 * down e) h)))

pub when_large : (x : Float) → T (le one x) → lt x most ≡ false → rounded_of most ≡ rounded_of x
unfolding lt of_bits
when_large x g h = large most most-positive refl ∙ sym (large x (above_of_le one x one-positive g) h)

-- ---- between them: the digits with their leading 1, over 2 ^ 52, times the power of 2 that the exponent says
digits_value : (b : ℕ) → 1023 ≤ b / 2 ^ 52 → b / 2 ^ 52 < 2047 → HasValue (of_bits binary64 b) false ((b % 2 ^ 52 + 2 ^ 52) * 2 ^ (b / 2 ^ 52 - 1023)) (2 ^ 52)
digits_value b g h =
    subst (λ (v : Float). HasValue v false ((b % 2 ^ 52 + 2 ^ 52) * 2 ^ (b / 2 ^ 52 - 1023)) (2 ^ 52)) (sym (sign_clear b (omega arith))) (go (b / 2 ^ 52) (b % 2 ^ 52) g h)
  where
    scaled : (d e j k : ℕ) → d ≡ e → j + 52 ≡ k + 1074 → d * 2 ^ j * 2 ^ 52 ≡ e * 2 ^ k * 2 ^ 1074
    scaled d e j k l q =
        mul_assoc d (2 ^ j) (2 ^ 52)
        ∙ ap (λ (z : ℕ). d * z) (sym (pow-add 2 j 52) ∙ ap (λ (z : ℕ). 2 ^ z) q ∙ pow-add 2 k 1074)
        ∙ sym (mul_assoc d (2 ^ k) (2 ^ 1074))
        ∙ ap (λ (z : ℕ). z * 2 ^ k * 2 ^ 1074) l

    go : (x t : ℕ) → 1023 ≤ x → x < 2047 → HasValue (of_fields binary64 false x t) false ((t + 2 ^ 52) * 2 ^ (x - 1023)) (2 ^ 52)
    go zero t g h = absurd (omega arith)
    go (suc j) t g h =
        let d = 2 ^ 52 + t in
        let k = suc j - 1023 in
        subst (λ (v : Float). HasValue v false ((t + 2 ^ 52) * 2 ^ k) (2 ^ 52)) (sym (normal_is j t (omega arith)))
        (value_same (odd 53 false d j 1074) false (d * 2 ^ j) (2 ^ 1074) ((t + 2 ^ 52) * 2 ^ k) (2 ^ 52) (pow_pos 1074) (scaled d (t + 2 ^ 52) j k (omega arith) (omega arith)) (odd_sign 53 false d j 1074))

module _ (x : Float) (F : T (fits binary64 x)) (from : T (le one x)) (to : T (le x most)) where
  abbrev b : ℕ
  b = to_bits binary64 x

  inside : T (positive x)
  inside = between one x most one-positive most-positive from to

  pub field_from : 1023 ≤ b / 2 ^ 52
  unfolding to_bits of_bits fits
  field_from = low b (bits_mono one x tt F one-positive inside from)
    where
      low : (n : ℕ) → 0x3ff0_0000_0000_0000 ≤ n → 1023 ≤ n / 2 ^ 52
      low n k = omega arith

  pub field_to : b / 2 ^ 52 ≤ 1039
  unfolding to_bits of_bits fits
  field_to = high b (bits_mono x most F tt inside most-positive to)
    where
      high : (n : ℕ) → n ≤ 0x40f0_0010_0000_0000 → n / 2 ^ 52 ≤ 1039
      high n k = omega arith

  abbrev a : ℕ
  a = (b % 2 ^ 52 + 2 ^ 52) * 2 ^ (b / 2 ^ 52 - 1023)

  value : HasValue x false a (2 ^ 52)
  value = subst (λ (v : Float). HasValue v false a (2 ^ 52)) (of_bits-to_bits binary64 x F) (digits_value b field_from (omega (arith, field_to)))

  pub at_most : nearest_half a (2 ^ 52) ≤ 65537
  at_most = half_few 65537 a (2 ^ 52) (pow_pos 52) (omega (arith, values_of_le x most a (2 ^ 52) 65537 1 inside most-positive value most-value to))

  pub when_inside : nearest_half a (2 ^ 52) ≡ rounded_of x
  when_inside =
      sym (value-rounded x a (2 ^ 52) (pow_pos 52) value
      ∙ frames-some (nearest_half a (2 ^ 52)) (half-large 1 a (2 ^ 52) (pow_pos 52) (omega (arith, values_of_le one x 1 1 a (2 ^ 52) one-positive inside one_value value from))) at_most)
