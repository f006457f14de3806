-- A whole number taken off a float that is not smaller, and below 2 ^ 53: the difference is exact. Both are whole numbers of the float's last place,
-- which is at most 1, and the difference is no larger than the float.
use mathlib.Core.Path.{◌≡◌, refl, sym, ap, ◌∙◌, subst}
use mathlib.Core.Bool.{Bool, true, false, cond, true≢false}
use Prim.Native.Nat.{ℕ, suc, ◌+◌, ◌-◌, ◌*◌, ◌^◌, ◌≤◌, ◌<◌}
use native.Mathlib.Nat.{le_trans, le_of_eq, lt_of_lt_of_le, not-le_of_lt, zero-lt-suc, mul-one, mul_assoc, mul_comm, mul_right_comm, mul-pos, mul-le-mul_right, mul-lt-mul_of_pos_right, le_of_mul-le-mul_right, lt_of_mul-lt-mul_right, eq_of_mul-eq-mul_right, mul-sub}
use native.Mathlib.Omega.{arith}
use lib.IntN.{ℤ, pos, negsuc}
use lib.Dec.{T, ltb, ltb→lt, lit≤}
use lib.Pow.{pow-add, pow_pos, pow_mono, shl_lt}
use lib.Ieee.{Float, nan, inf, fin, binary64, up, down, fits, round, sum, sub, of_int}
use lib.Ieee.Fits.{down_pos}
use lib.Ieee.Exact.{HasValue, round_exact}
use lib.Ieee.Back.{round_whole}
use lib.Ieee.Scale.{round_same}
use Rattle.floats.specs.Numbers.{number}
use Rattle.floats.proofs.Format.{in_format, few-places}

-- ---- fractions

-- a float that is one fraction is any other of the same value
pub value_same : (v : Float) (s : Bool) (a b c d : ℕ) → 0 < b → a * d ≡ c * b → HasValue v s a b → HasValue v s c d
value_same nan s a b c d B q h = absurd h
value_same (inf t) s a b c d B q h = absurd h
value_same (fin t m e) s a b c d B q h = (
  h.0,
  eq_of_mul-eq-mul_right b B (m * up e * d) (c * down e) (mul_right_comm (m * up e) d b ∙ ap (λ (z : ℕ). z * d) h.1 ∙ mul_right_comm a (down e) d ∙ ap (λ (z : ℕ). z * down e) q ∙ mul_right_comm c b (down e)),
)

-- `n as f64` is n, where all its digits fit
pub number-value : (n : ℕ) → n ≤ 2 ^ 53 → HasValue (number n) false n 1
unfolding of_int
number-value n h = round_whole binary64 false n h

sub-mul : (a b c : ℕ) → (a - b) * c ≡ a * c - b * c
sub-mul a b c = mul_comm (a - b) c ∙ mul-sub c a b ∙ ap (λ (z : ℕ). z - c * b) (mul_comm c a) ∙ ap (λ (z : ℕ). a * c - z) (mul_comm c b)

-- ---- the difference is a value of the format: rounding leaves it

less-lt : (a b c : ℕ) → a < c → a - b < c
less-lt a b c h = omega arith

fine : (q j : ℕ) → q < 2 ^ 53 → j ≤ 1074 → q * 2 ^ j < 2 ^ (1074 + 1024)
fine q j h g = lt_of_lt_of_le (shl_lt 53 j h) (pow_mono (let r : 53 + j ≤ 1074 + 1024 = omega arith in r))

round-less : (m : ℕ) (e : ℤ) (k : ℕ) → T (fits binary64 (fin false m e)) → m * up e < 2 ^ 53 * down e → HasValue (round binary64 false (m * up e - k * down e) (down e)) false (m * up e - k * down e) (down e)
round-less m (pos i) k F h =
    let n = m * 2 ^ i - k * 1 in
    let small : n < 2 ^ 53 = less-lt (m * 2 ^ i) (k * 1) (2 ^ 53) (subst (λ (z : ℕ). m * 2 ^ i < z) (mul-one (2 ^ 53)) h) in
    round_exact binary64 false n 1 n 1074 (zero-lt-suc 0) small (fine n 1074 small (lit≤ tt)) (sym (mul-one (n * 2 ^ 1074)))
round-less m (negsuc i) k F h =
    let n = m * 1 - k * 2 ^ suc i in
    let small : n < 2 ^ 53 = less-lt (m * 1) (k * 2 ^ suc i) (2 ^ 53) (subst (λ (z : ℕ). z < 2 ^ 53) (sym (mul-one m)) (in_format false m (negsuc i) F).0) in
    let low-enough : suc i ≤ 1074 = few-places (suc i) (in_format false m (negsuc i) F).1 in
    let j = 1074 - suc i in
    let back : j + suc i ≡ 1074 = omega arith in
    let less : j ≤ 1074 = omega arith in
    round_exact binary64 false n (2 ^ suc i) n j (pow_pos (suc i)) small (fine n j small less)
    (ap (λ (z : ℕ). n * 2 ^ z) (sym back) ∙ ap (λ (z : ℕ). n * z) (pow-add 2 j (suc i)) ∙ sym (mul_assoc n (2 ^ j) (2 ^ suc i)))

-- ---- what a difference hands to rounding

pub opened : (s : Bool) (m : ℕ) (e : ℤ) (n : ℕ) (d : ℤ) → sub binary64 (fin s m e) (fin false n d) ≡ sum binary64 s (m * up e * down d) true (n * up d * down e) (down e * down d)
unfolding sub
opened s m e n d = refl

not-below : (a b c : ℕ) → b ≤ a → sum binary64 false a true b c ≡ round binary64 false (a - b) c
unfolding sum
not-below a b c h = go (ltb a b) (ltb→lt a b)
  where
    go : (t : Bool) → (T t → a < b) → cond t (round binary64 true (b - a) c) (round binary64 false (a - b) c) ≡ round binary64 false (a - b) c
    go true k = absurd (not-le_of_lt (k tt) h)
    go false k = refl

-- N / D is k
pub scaled : (C D N k : ℕ) → N * 1 ≡ k * D → N * C ≡ k * C * D
scaled C D N k e = ap (λ (z : ℕ). z * C) (sym (mul-one N) ∙ e) ∙ mul_right_comm k D C

cross : (A C D N k : ℕ) → N * 1 ≡ k * D → (A * D - N * C) * C ≡ (A - k * C) * (C * D)
cross A C D N k e =
    ap (λ (z : ℕ). (A * D - z) * C) (scaled C D N k e)
    ∙ ap (λ (z : ℕ). z * C) (sym (sub-mul A (k * C) D))
    ∙ mul_assoc (A - k * C) D C
    ∙ ap (λ (z : ℕ). (A - k * C) * z) (mul_comm D C)

-- the difference rounded, of any y that is k
pub sub-whole : (m : ℕ) (e : ℤ) (y : Float) (k : ℕ) → HasValue y false k 1 → k * down e ≤ m * up e → sub binary64 (fin false m e) y ≡ round binary64 false (m * up e - k * down e) (down e)
sub-whole m e nan k v h = absurd v
sub-whole m e (inf s) k v h = absurd v
sub-whole m e (fin true n d) k v h = absurd (true≢false v.0)
sub-whole m e (fin false n d) k v h =
    opened false m e n d
    ∙ not-below (m * up e * down d) (n * up d * down e) (down e * down d) (le_trans (le_of_eq (scaled (down e) (down d) (n * up d) k v.1)) (mul-le-mul_right (down d) h))
    ∙ round_same binary64 false (m * up e * down d - n * up d * down e) (down e * down d) (m * up e - k * down e) (down e) (mul-pos (down_pos e) (down_pos d)) (down_pos e) (cross (m * up e) (down e) (down d) (n * up d) k v.1)

-- ---- The law: of any x = a / c below 2 ^ 53 and any y that is a whole number k at most x, x - y is a / c - k.
pub exact-less : (x y : Float) (a c k : ℕ) → T (fits binary64 x) → 0 < c → HasValue x false a c → HasValue y false k 1 → a < 2 ^ 53 * c → k * c ≤ a → HasValue (sub binary64 x y) false (a - k * c) c
exact-less nan y a c k F C v w h g = absurd v
exact-less (inf s) y a c k F C v w h g = absurd v
exact-less (fin true m e) y a c k F C v w h g = absurd (true≢false v.0)
exact-less (fin false m e) y a c k F C v w h g =
    let M : ℕ = m * up e in
    let D : ℕ = down e in
    let under : k * D ≤ M = le_of_mul-le-mul_right (le_trans (le_of_eq (mul_right_comm k D c)) (le_trans (mul-le-mul_right D g) (le_of_eq (sym v.1)))) C in
    let small : M < 2 ^ 53 * D = lt_of_mul-lt-mul_right c (subst (λ (z : ℕ). z < 2 ^ 53 * D * c) (sym v.1) (lt_of_lt_of_le (mul-lt-mul_of_pos_right h (down_pos e)) (le_of_eq (mul_right_comm (2 ^ 53) c D)))) in
    let same : (M - k * D) * c ≡ (a - k * c) * D = sub-mul M (k * D) c ∙ ap (λ (z : ℕ). z - k * D * c) v.1 ∙ ap (λ (z : ℕ). a * D - z) (mul_right_comm k D c) ∙ sym (sub-mul a (k * c) D) in
    subst (λ (z : Float). HasValue z false (a - k * c) c) (sym (sub-whole m e y k w under)) (value_same (round binary64 false (M - k * D) D) false (M - k * D) D (a - k * c) c (down_pos e) same (round-less m e k F small))
