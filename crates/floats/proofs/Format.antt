-- What the format holds: at most 53 digits, and no place below 2 ^ -1074.
use mathlib.Core.Path.{sym}
use mathlib.Core.Bool.{Bool, ◌&&◌}
use Prim.Native.Nat.{ℕ, zero, suc, ◌*◌, ◌%◌, ◌^◌, ◌≤◌, ◌<◌}
use native.Mathlib.Nat.{le_trans, le_of_eq, lt_of_not-le, not-le_of_lt, le_of_suc-le-suc, one-mul, mul-le-mul_right}
use lib.IntN.{ℤ}
use lib.Dec.{T, leb, ltb, eqb, ltb→lt, leb→le, eqb→eq}
use lib.Pow.{pow_pos, pow-lt}
use lib.Ieee.{fin, binary64, up, down, fits}
use lib.Ieee.Fits.{and_l, and_r, up_pos}

pub in_format : (s : Bool) (m : ℕ) (e : ℤ) → T (fits binary64 (fin s m e)) → (m < 2 ^ 53) × (down e ≤ 2 ^ 1074)
unfolding fits
in_format s zero e t = (pow_pos 53, le_trans (le_trans (le_of_eq (sym (one-mul (down e)))) (mul-le-mul_right (down e) (up_pos e))) (le_trans (le_of_eq (eqb→eq (up e * down e) 1 t)) (pow_pos 1074)))
in_format s (suc m) e t =
    let a : Bool = eqb (suc m % 2) 1 in
    let b : Bool = ltb (suc m) (2 ^ 53) in
    let c : Bool = leb (down e) (2 ^ 1074) in
    let d : Bool = ltb (suc m * up e) (2 ^ 1024 * down e) in
    let h : T (a && b && c) = and_l (a && b && c) d t in
    (ltb→lt (suc m) (2 ^ 53) (and_r a b (and_l (a && b) c h)), leb→le (down e) (2 ^ 1074) (and_r (a && b) c h))

pub few-places : (i : ℕ) → 2 ^ i ≤ 2 ^ 1074 → i ≤ 1074
few-places i h = le_of_suc-le-suc (lt_of_not-le (λ (g : suc 1074 ≤ i). not-le_of_lt (pow-lt g) h))
