-- Frames taken off an end, and what is left rounded: that is the end rounded, less those frames.
use mathlib.Core.Path.{◌≡◌, refl, sym, ap, ◌∙◌, subst}
use mathlib.Core.Bool.{Bool, true, false, cond, true≢false}
use mathlib.Core.Logic.{◌⊎◌, inl, inr}
use Prim.Native.Nat.{ℕ, ◌+◌, ◌-◌, ◌*◌, ◌^◌, ◌≤◌, ◌<◌, zero-le}
use native.Mathlib.Nat.{le_trans, le_of_eq, le_of_lt, lt_of_lt_of_le, lt_of_le_of_lt, lt_of_mul-lt-mul_right, zero-lt-suc, mul-one, mul_right_comm, mul-le-mul_right, mul-lt-mul_of_pos_right, zero-mul}
use native.Mathlib.Omega.{arith}
use lib.IntN.{ℤ}
use lib.Dec.{T, eqb, eqb→eq, lit≤}
use borrow.Author.Tests.{lt-ltb}
use lib.Pow.{pow_pos}
use lib.Ieee.{Float, nan, inf, fin, binary64, up, down, fits, round, sum, sub, of_bits, le}
use lib.Ieee.Fits.{and_l, down_pos}
use lib.Ieee.Exact.{HasValue}
use lib.Ieee.Back.{round_whole}
use lib.Ieee.Order.{round_mono}
use lib.Ieee.Positive.{num, den, positive, positive_of_value, values_of_le, above, above_of_le}
use lib.Ieee.Scale.{finite}
use Rattle.lists.proofs.Numbers.{le_or_lt}
use Rattle.floats.specs.Rounding.{nearest_half, rounded_of, to_integral, frames_of}
use Rattle.floats.specs.Numbers.{nought}
use Rattle.floats.proofs.Below.{round-below}
use Rattle.floats.proofs.Differences.{opened, scaled, sub-whole, exact-less}
use Rattle.floats.proofs.Halves.{half-large, half-less, half_few, frames, frames-few, frames-many}
use Rattle.floats.proofs.Whole.{value-rounded}

-- ---- x below zero, or -0, and x below k: 1

none_left : (n : ℕ) → n ≡ 0 → frames n ≡ 1
none_left n e = frames-few n (omega arith)

sum_negative : (a b c : ℕ) → rounded_of (sum binary64 true a true b c) ≡ 1
unfolding sum
sum_negative a b c = round-below (a + b) c

sum_below : (a b c : ℕ) → a < b → rounded_of (sum binary64 false a true b c) ≡ 1
unfolding sum
sum_below a b c h = ap (λ (t : Bool). rounded_of (cond t (round binary64 true (b - a) c) (round binary64 false (a - b) c))) (lt-ltb a b h) ∙ round-below (b - a) c

from_negative : (m : ℕ) (e : ℤ) (y : Float) (k : ℕ) → HasValue y false k 1 → rounded_of (sub binary64 (fin true m e) y) ≡ 1
from_negative m e nan k v = absurd v
from_negative m e (inf s) k v = absurd v
from_negative m e (fin true n d) k v = absurd (true≢false v.0)
from_negative m e (fin false n d) k v = ap rounded_of (opened true m e n d) ∙ sum_negative (m * up e * down d) (n * up d * down e) (down e * down d)

from-below : (m : ℕ) (e : ℤ) (y : Float) (k : ℕ) → HasValue y false k 1 → m * up e < k * down e → rounded_of (sub binary64 (fin false m e) y) ≡ 1
from-below m e nan k v h = absurd v
from-below m e (inf s) k v h = absurd v
from-below m e (fin true n d) k v h = absurd (true≢false v.0)
from-below m e (fin false n d) k v h =
    ap rounded_of (opened false m e n d)
    ∙ sum_below (m * up e * down d) (n * up d * down e) (down e * down d)
    (lt_of_lt_of_le (mul-lt-mul_of_pos_right h (down_pos d)) (le_of_eq (sym (scaled (down e) (down d) (n * up d) k v.1))))

-- of any x = a / c
pub below_one : (x y : Float) (a c k : ℕ) → 0 < c → HasValue x false a c → HasValue y false k 1 → a < k * c → rounded_of (sub binary64 x y) ≡ 1
below_one nan y a c k C v w h = absurd v
below_one (inf s) y a c k C v w h = absurd v
below_one (fin true m e) y a c k C v w h = absurd (true≢false v.0)
below_one (fin false m e) y a c k C v w h =
    from-below m e y k w
    (lt_of_mul-lt-mul_right c (lt_of_le_of_lt (le_of_eq v.1) (lt_of_lt_of_le (mul-lt-mul_of_pos_right h (down_pos e)) (le_of_eq (mul_right_comm k c (down e))))))

-- ---- x from 2 ^ 53 on: above 65,536, though the difference may be rounded

above-large : (y z : Float) → HasValue y false (2 ^ 52) 1 → T (positive y) → T (le y z) → T (above z) → rounded_of z ≡ 65537
unfolding rounded_of to_integral frames_of
above-large y nan v p l a = absurd a
above-large y (inf true) v p l a = absurd a
above-large y (inf false) v p l a = refl
above-large y (fin true n d) v p l a = absurd a
above-large y (fin false n d) v p l a =
    frames-many (nearest_half (n * up d) (down d))
    (le_trans (lit≤ tt) (half-large (2 ^ 52) (n * up d) (down d) (down_pos d)
    (le_trans (values_of_le y (fin false n d) (2 ^ 52) 1 (n * up d) (down d) p a v (refl, refl) l) (le_of_eq (mul-one (n * up d))))))

round-large : (a c : ℕ) → 0 < c → 2 ^ 52 * c ≤ a → rounded_of (round binary64 false a c) ≡ 65537
round-large a c C h =
    let y = round binary64 false (2 ^ 52) 1 in
    let v : HasValue y false (2 ^ 52) 1 = round_whole binary64 false (2 ^ 52) (lit≤ tt) in
    let p : T (positive y) = positive_of_value y (2 ^ 52) 1 v (pow_pos 52) in
    let l : T (le y (round binary64 false a c)) = round_mono binary64 (2 ^ 52) 1 a c (zero-lt-suc 0) C (le_trans h (le_of_eq (sym (mul-one a)))) in
    above-large y (round binary64 false a c) v p l (above_of_le y (round binary64 false a c) p l)

far : (A C k : ℕ) → k ≤ 65536 → 2 ^ 53 * C ≤ A → 2 ^ 52 * C ≤ A - k * C
far A C k h g = apart (mul-le-mul_right C h)
  where
    apart : k * C ≤ 65536 * C → 2 ^ 52 * C ≤ A - k * C
    apart l = omega arith

-- ---- The law: the frames of x - k, for x not below zero, are those of x rounded, halves upward, less k. No error of the subtraction is left in them.

-- -0 is the one such x with its sign set
signed-zero : (m : ℕ) (e : ℤ) → le nought (fin true m e) ≡ true → m * up e ≡ 0
unfolding le of_bits
signed-zero m e h =
    sym (mul-one (m * up e)) ∙ sym (eqb→eq (0 * 1 * down e) (m * up e * 1) (and_l (eqb (0 * 1 * down e) (m * up e * 1)) (eqb (0 * 1 * down e) 0) (subst T (sym h) tt))) ∙ zero-mul (down e)

negative_none : (m : ℕ) (e : ℤ) → le nought (fin true m e) ≡ true → nearest_half (m * up e) (down e) ≤ 0
negative_none m e g = half_few 0 (m * up e) (down e) (down_pos e) (le_trans (le_of_eq (signed-zero m e g)) zero-le)

pub rounded-less : (x y : Float) (k : ℕ) → T (fits binary64 x) → T (finite x) → le nought x ≡ true → HasValue y false k 1 → k ≤ 65536 → rounded_of (sub binary64 x y) ≡ frames (nearest_half (num x) (den x) - k)
rounded-less nan y k F f g v h = absurd f
rounded-less (inf s) y k F f g v h = absurd f
rounded-less (fin true m e) y k F f g v h =
    from_negative m e y k v ∙ sym (none_left (nearest_half (m * up e) (down e) - k) (omega (arith, negative_none m e g)))
rounded-less (fin false m e) y k F f g v h = whole_of (le_or_lt (k * down e) (m * up e)) (le_or_lt (2 ^ 53 * down e) (m * up e))
  where
    whole_of : (k * down e ≤ m * up e) ⊎ (m * up e < k * down e) → (2 ^ 53 * down e ≤ m * up e) ⊎ (m * up e < 2 ^ 53 * down e) → rounded_of (sub binary64 (fin false m e) y) ≡ frames (nearest_half (m * up e) (down e) - k)
    whole_of (inr l) r =
        let z : nearest_half (m * up e) (down e) ≤ k = half_few k (m * up e) (down e) (down_pos e) (le_of_lt l) in
        from-below m e y k v l ∙ sym (none_left (nearest_half (m * up e) (down e) - k) (omega arith))
    whole_of (inl l) (inl r) =
        let z : 2 ^ 53 ≤ nearest_half (m * up e) (down e) = half-large (2 ^ 53) (m * up e) (down e) (down_pos e) r in
        ap rounded_of (sub-whole m e y k v l) ∙ round-large (m * up e - k * down e) (down e) (down_pos e) (far (m * up e) (down e) k h r) ∙ sym (frames-many (nearest_half (m * up e) (down e) - k) (omega arith))
    whole_of (inl l) (inr r) =
        value-rounded (sub binary64 (fin false m e) y) (m * up e - k * down e) (down e) (down_pos e) (exact-less (fin false m e) y (m * up e) (down e) k F (down_pos e) (refl, refl) v r l)
        ∙ ap frames (half-less (m * up e) (down e) k (down_pos e) l)

-- such an x that rounds to more than 0 is a fraction with its sign clear
pub own-fraction : (x : Float) → T (finite x) → le nought x ≡ true → 0 < nearest_half (num x) (den x) → HasValue x false (num x) (den x)
own-fraction nan f g h = absurd f
own-fraction (inf s) f g h = absurd f
own-fraction (fin true m e) f g h = absurd (omega (arith, negative_none m e g))
own-fraction (fin false m e) f g h = (refl, refl)

-- and of infinity more than any alignment takes
pub endless-less : (y : Float) (k : ℕ) → HasValue y false k 1 → rounded_of (sub binary64 (inf false) y) ≡ 65537
unfolding sub rounded_of to_integral frames_of
endless-less nan k v = absurd v
endless-less (inf t) k v = absurd v
endless-less (fin t n d) k v = refl
