-- A float by the fields of its bit pattern.
use mathlib.Core.Path.{◌≡◌, refl, sym, ap, ◌∙◌, subst}
use mathlib.Core.Bool.{Bool, true, false, not, cond, true≢false}
use Prim.Native.Nat.{ℕ, zero, suc, ◌+◌, ◌-◌, ◌/◌, ◌%◌, ◌^◌, ◌≤◌, ◌<◌}
use native.Mathlib.Nat.{mod-lt, mod-eq_of_lt}
use native.Mathlib.Omega.{arith}
use lib.Dec.{T, leb, eqb, not_T, eqb→eq}
use lib.Arith.{lt→nleb}
use lib.Pow.{pow_pos, mod-mod-pow}
use lib.Bits.{bit_and, bit_or, and_mask, or_shifted_r}
use lib.Ieee.{Float, nan, inf, fin, binary64, odd, fits, is_nan, of_fields, of_bits, to_bits, nan_bits, ne}
use lib.Ieee.Bits.{of_bits-to_bits, to_bits-lt, nan_bits_is, nan_bits_above, cond_no}
use borrow.Author.Tests.{lt-ltb, le-ltb}
use lib.Ieee.Compare.{differs_from_itself}
use Rattle.lists.specs.Bytes.{little, bytes_of}
use Rattle.lists.proofs.Bytes.{little-bytes}
use Rattle.floats.specs.Order.{abs_of}

-- what the test `x != x` says
pub is-nan : (x : Float) → ne x x ≡ true → x ≡ nan
is-nan x h = differs_from_itself x (subst T (sym h) tt)

pub no_nan : (x : Float) → ne x x ≡ false → is_nan x ≡ false
unfolding ne is_nan
no_nan nan h = h
no_nan (inf s) h = refl
no_nan (fin s m e) h = refl

pub not_of : {b : Bool} → b ≡ false → T (not b)
not_of h = subst (λ (a : Bool). T (not a)) (sym h) tt

-- every NaN pattern, and every other
is_nan_of : (x : Float) → is_nan x ≡ true → x ≡ nan
unfolding is_nan
is_nan_of nan h = refl
is_nan_of (inf s) h = absurd (true≢false (sym h))
is_nan_of (fin s m e) h = absurd (true≢false (sym h))

pub nan_pattern : (b : ℕ) → 0x7ff0_0000_0000_0000 < b % 2 ^ 63 → of_bits binary64 b ≡ nan
nan_pattern b h = is_nan_of (of_bits binary64 b) (sym (nan_bits_is binary64 b) ∙ nan_bits_above binary64 b ∙ lt-ltb 0x7ff0_0000_0000_0000 (b % 2 ^ 63) h)

pub number_pattern : (b : ℕ) → b % 2 ^ 63 ≤ 0x7ff0_0000_0000_0000 → nan_bits binary64 b ≡ false
number_pattern b h = nan_bits_above binary64 b ∙ le-ltb 0x7ff0_0000_0000_0000 (b % 2 ^ 63) h

bool_false : (b : Bool) → T (not b) → b ≡ false
bool_false true h = absurd h
bool_false false h = refl

-- a pattern by its fields
pub by_fields : (b : ℕ) → of_bits binary64 b ≡ of_fields binary64 (leb (2 ^ 63) b) (b % 2 ^ 63 / 2 ^ 52) (b % 2 ^ 52)
unfolding of_bits
by_fields b = refl

pub sign_clear : (b : ℕ) → b < 2 ^ 63 → of_bits binary64 b ≡ of_fields binary64 false (b / 2 ^ 52) (b % 2 ^ 52)
sign_clear b h =
    by_fields b
    ∙ ap (λ (k : Bool). of_fields binary64 k (b % 2 ^ 63 / 2 ^ 52) (b % 2 ^ 52)) (bool_false (leb (2 ^ 63) b) (lt→nleb (2 ^ 63) b h))
    ∙ ap (λ (k : ℕ). of_fields binary64 false (k / 2 ^ 52) (b % 2 ^ 52)) (mod-eq_of_lt h)

-- below the field of all ones
other : (j : ℕ) → j < 2046 → T (not (eqb (suc j) 2047))
other j h = not_T (eqb (suc j) 2047) (λ u. (let e : suc j ≡ 2047 = eqb→eq (suc j) 2047 u in omega arith))

pub normal_is : (j t : ℕ) → j < 2046 → of_fields binary64 false (suc j) t ≡ odd 53 false (2 ^ 52 + t) j 1074
unfolding of_fields
normal_is j t h = cond_no (eqb (suc j) 2047) (cond (eqb t 0) (inf false) nan) (odd 53 false (2 ^ 52 + t) j 1074) (other j h)

pub subnormal_is : (t : ℕ) → of_fields binary64 false 0 t ≡ odd 53 false t 0 1074
unfolding of_fields
subnormal_is t = refl

-- the digits with their leading 1, as `bits & 0xf_ffff_ffff_ffff | 0x10_0000_0000_0000` has them
pub digits_are : (b : ℕ) → bit_or (bit_and b (2 ^ 52 - 1)) (2 ^ 52) ≡ 2 ^ 52 + b % 2 ^ 52
digits_are b = ap (λ (k : ℕ). bit_or k (2 ^ 52)) (and_mask b 52) ∙ or_shifted_r 1 52 (b % 2 ^ 52) (mod-lt b (pow_pos 52))

-- ---- the sign's bit cleared

odd_abs : (d : ℕ) (s : Bool) (q k l : ℕ) → odd d false q k l ≡ abs_of (odd d s q k l)
unfolding odd abs_of
odd_abs d s zero k l = refl
odd_abs d s (suc q) k l = refl

cond_abs : (a b s : Bool) (v w : Float) → v ≡ abs_of w → cond a (cond b (inf false) nan) v ≡ abs_of (cond a (cond b (inf s) nan) w)
unfolding abs_of
cond_abs true true s v w e = refl
cond_abs true false s v w e = refl
cond_abs false b s v w e = e

fields_abs : (s : Bool) (x t : ℕ) → of_fields binary64 false x t ≡ abs_of (of_fields binary64 s x t)
unfolding of_fields
fields_abs s zero t = odd_abs 53 s t 0 1074
fields_abs s (suc x) t = cond_abs (eqb (suc x) 2047) (eqb t 0) s (odd 53 false (2 ^ 52 + t) x 1074) (odd 53 s (2 ^ 52 + t) x 1074) (odd_abs 53 s (2 ^ 52 + t) x 1074)

pub clear_sign : (b : ℕ) → of_bits binary64 (b % 2 ^ 63) ≡ abs_of (of_bits binary64 b)
clear_sign b =
    let m = b % 2 ^ 63 in
    let small : m < 2 ^ 63 = mod-lt b (pow_pos 63) in
    by_fields m
    ∙ ap (λ (k : Bool). of_fields binary64 k (m % 2 ^ 63 / 2 ^ 52) (m % 2 ^ 52)) (bool_false (leb (2 ^ 63) m) (lt→nleb (2 ^ 63) m small))
    ∙ ap (λ (k : ℕ). of_fields binary64 false (k / 2 ^ 52) (m % 2 ^ 52)) (mod-eq_of_lt small)
    ∙ ap (λ (k : ℕ). of_fields binary64 false (m / 2 ^ 52) k) (mod-mod-pow b 11 52)
    ∙ fields_abs (leb (2 ^ 63) b) (m / 2 ^ 52) (b % 2 ^ 52)
    ∙ ap abs_of (sym (by_fields b))

abs_nan : (x : Float) → is_nan (abs_of x) ≡ is_nan x
unfolding abs_of is_nan
abs_nan nan = refl
abs_nan (inf s) = refl
abs_nan (fin s m e) = refl

-- |x| by its pattern
pub abs_of-bits : (x : Float) → T (fits binary64 x) → of_bits binary64 (to_bits binary64 x % 2 ^ 63) ≡ abs_of x
abs_of-bits x F = clear_sign (to_bits binary64 x) ∙ ap abs_of (of_bits-to_bits binary64 x F)

pub abs_bits_no_nan : (x : Float) → T (fits binary64 x) → is_nan x ≡ false → nan_bits binary64 (to_bits binary64 x % 2 ^ 63) ≡ false
abs_bits_no_nan x F h = nan_bits_is binary64 (to_bits binary64 x % 2 ^ 63) ∙ ap is_nan (abs_of-bits x F) ∙ abs_nan x ∙ h

-- ---- a float's eight bytes say it
pub bytes_back : (x : Float) → T (fits binary64 x) → of_bits binary64 (little (bytes_of 8 (to_bits binary64 x))) ≡ x
bytes_back x F = ap (of_bits binary64) (little-bytes 8 (to_bits binary64 x) (to_bits-lt binary64 x F)) ∙ of_bits-to_bits binary64 x F
