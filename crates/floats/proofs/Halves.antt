-- Rounding to the nearest whole number, halves upward.
use mathlib.Core.Path.{◌≡◌, refl, sym, ap, ◌∙◌}
use Prim.Native.Nat.{ℕ, zero, suc, ◌+◌, ◌-◌, ◌*◌, ◌/◌, ◌^◌, ◌≤◌, ◌<◌}
use native.Mathlib.Nat.{mul_assoc, mul_comm, mul_left_comm, mul-add, add-mul, mul-pos, suc-mul, add-mul-div_left, add-mul-div_right, div-div-eq-div-mul, div-le_self, div-lt_iff_lt-mul, le-div_iff_mul-le, le_of_suc-le-suc, mul-div-mul_left, mul-div-mul_right}
use native.Mathlib.Omega.{arith}
use lib.Pow.{pow_pos, pow-add}
use lib.Ieee.Nearest.{div_same}
use mathlib.Core.Bool.{true}
use lib.IntN.{pos}
use Rattle.floats.specs.Rounding.{whole, signed, nearest_half, frames_of}

two_pos : 0 < 2
two_pos = omega arith

cross : (a b c d : ℕ) → a * d ≡ c * b → (2 * a + b) * (2 * d) ≡ (2 * c + d) * (2 * b)
cross a b c d e =
    let l : (2 * a + b) * (2 * d) ≡ 4 * (a * d) + 2 * (b * d) = simp (add-mul, mul_assoc, mul_left_comm) (omega arith) in
    let r : (2 * c + d) * (2 * b) ≡ 4 * (c * b) + 2 * (b * d) = simp (add-mul, mul_assoc, mul_comm, mul_left_comm) (omega arith) in
    omega arith

-- equal fractions round to the same number
pub half_same : (a b c d : ℕ) → 0 < b → 0 < d → a * d ≡ c * b → nearest_half a b ≡ nearest_half c d
unfolding nearest_half
half_same a b c d B D e = div_same (2 * a + b) (2 * b) (2 * c + d) (2 * d) (mul-pos two_pos B) (mul-pos two_pos D) (cross a b c d e)

-- so many halves and one more fit 64 bits
pub one_more-fits : (n k : ℕ) → n < 2 ^ 54 → n / k + 1 < 2 ^ 64
one_more-fits n k h = omega (arith, div-le_self n k)

-- from n on it is at least n
pub half-large : (n a c : ℕ) → 0 < c → n * c ≤ a → n ≤ nearest_half a c
unfolding nearest_half
half-large n a c C h =
    let e : n * (2 * c) ≡ 2 * (n * c) = simp mul_left_comm in
    (le-div_iff_mul-le (mul-pos two_pos C)).1 (omega arith)

-- it commutes with adding a whole number
half-more : (b c k : ℕ) → 0 < c → nearest_half (b + k * c) c ≡ nearest_half b c + k
unfolding nearest_half
half-more b c k C =
    let t : k * (2 * c) ≡ 2 * (k * c) = mul_left_comm k 2 c in
    let e : 2 * (b + k * c) + c ≡ 2 * b + c + k * (2 * c) = omega arith in
    ap (λ (z : ℕ). z / (2 * c)) e ∙ add-mul-div_right (2 * b + c) k (mul-pos two_pos C)

-- the nearest whole number to a / c - k, halves upward, is that to a / c, less k
pub half-less : (a c k : ℕ) → 0 < c → k * c ≤ a → nearest_half (a - k * c) c ≡ nearest_half a c - k
half-less a c k C h =
    let e : a ≡ a - k * c + k * c = omega arith in
    let q : nearest_half a c ≡ nearest_half (a - k * c) c + k = ap (λ (z : ℕ). nearest_half z c) e ∙ half-more (a - k * c) c k C in
    omega arith

-- up to n it is at most n
pub half_few : (n a c : ℕ) → 0 < c → a ≤ n * c → nearest_half a c ≤ n
unfolding nearest_half
half_few n a c C h =
    let t : suc n * (2 * c) ≡ 2 * (n * c) + 2 * c = suc-mul n (2 * c) ∙ ap (λ (z : ℕ). z + 2 * c) (mul_left_comm n 2 c) in
    le_of_suc-le-suc ((div-lt_iff_lt-mul (mul-pos two_pos C)).1 (let q : 2 * a + c < suc n * (2 * c) = omega arith in q))

-- it is worked out by adding a half and cutting
half-cut : (a c : ℕ) → nearest_half a (2 * c) ≡ (a + c) / (2 * c)
unfolding nearest_half
half-cut a c = ap (λ (k : ℕ). k / (2 * (2 * c))) (sym (mul-add 2 a c)) ∙ mul-div-mul_left (a + c) (2 * c) two_pos

-- and where the last six of the digits lie below the half they are not missed: of d * 2 ^ k / 2 ^ 52
pub half-short : (d k : ℕ) → k ≤ 45 → nearest_half (d * 2 ^ k) (2 ^ 52) ≡ (d / 64 * 2 ^ k + 2 ^ 45) / 2 ^ 46
half-short d k h =
    let n = 45 - k in
    let c = 2 ^ n in
    let e : n + k ≡ 45 = omega arith in
    let l : c * 2 ^ k ≡ 2 ^ 45 = sym (pow-add 2 n k) ∙ ap (λ (z : ℕ). 2 ^ z) e in
    let m : 2 * c * 2 ^ k ≡ 2 ^ 46 = mul_assoc 2 c (2 ^ k) ∙ ap (λ (z : ℕ). 2 * z) l in
    let q : 2 ^ k * (64 * c) ≡ 64 * 2 ^ 45 = mul_left_comm (2 ^ k) 64 c ∙ ap (λ (z : ℕ). 64 * z) (mul_comm (2 ^ k) c ∙ l) in
    let w : d * 2 ^ k * (2 * (64 * c)) ≡ d * 2 ^ 52 = mul_assoc d (2 ^ k) (2 * (64 * c)) ∙ ap (λ (z : ℕ). d * z) (mul_left_comm (2 ^ k) 2 (64 * c) ∙ ap (λ (z : ℕ). 2 * z) q) in
    half_same (d * 2 ^ k) (2 ^ 52) d (2 * (64 * c)) (pow_pos 52) (mul-pos two_pos (mul-pos (pow_pos 6) (pow_pos n))) w
    ∙ half-cut d (64 * c)
    ∙ ap (λ (z : ℕ). (d + 64 * c) / z) (mul_left_comm 2 64 c)
    ∙ sym (div-div-eq-div-mul (d + 64 * c) 64 (2 * c))
    ∙ ap (λ (z : ℕ). z / (2 * c)) (add-mul-div_left d c (pow_pos 6))
    ∙ sym (mul-div-mul_right (d / 64 + c) (2 * c) (pow_pos k))
    ∙ ap (λ (z : ℕ). z / (2 * c * 2 ^ k)) (add-mul (d / 64) c (2 ^ k) ∙ ap (λ (z : ℕ). d / 64 * 2 ^ k + z) l)
    ∙ ap (λ (z : ℕ). (d / 64 * 2 ^ k + 2 ^ 45) / z) m

-- ---- how many frames a whole number that is not below zero gives
abbrev pub frames : ℕ → ℕ
frames n = frames_of (whole (pos n))

pub frames-few : (n : ℕ) → n ≤ 1 → frames n ≡ 1
unfolding frames_of
frames-few n h = omega arith

pub frames-many : (n : ℕ) → 65537 ≤ n → frames n ≡ 65537
unfolding frames_of
frames-many n h = omega arith

pub frames-some : (n : ℕ) → 1 ≤ n → n ≤ 65537 → frames n ≡ n
unfolding frames_of
frames-some n h k = omega arith

-- and one that is
pub frames-below : (n : ℕ) → frames_of (whole (signed true n)) ≡ 1
unfolding frames_of
frames-below zero = refl
frames-below (suc n) = refl
