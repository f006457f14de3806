-- The correctly rounded root is nearest among the format's values, said by squares of whole numbers.
use mathlib.Core.Path.{◌≡◌, sym, ap, ◌∙◌, subst}
use mathlib.Core.Bool.{false}
use mathlib.Core.Logic.{⊎_elim}
use Prim.Native.Nat.{ℕ, zero, suc, ◌+◌, ◌-◌, ◌*◌, ◌^◌, ◌≤◌, ◌<◌}
use native.Mathlib.Nat.{zero-mul, mul-one, mul_assoc, mul_left_comm, add-mul, mul-pos, le_trans, le_of_eq, lt_of_lt_of_le, lt_of_le_of_lt, lt_of_not-le, not-le_of_lt, le_of_lt, lt_irrefl, mul-le-mul_left, mul-le-mul_right, mul-lt-mul_of_pos_right, le_of_suc-le-suc, eq_of_mul-eq-mul_right, pow-succ', suc-mul, le_antisymm}
use native.Mathlib.Omega.{arith}
use lib.IntN.{ℤ, pos, negsuc}
use lib.Dec.{T, lit<}
use lib.Pow.{pow-add, pow_pos, pow_mono, shl_lt}
use lib.Ieee.{Float, nan, inf, fin, binary64, up, down, fits}
use lib.Ieee.Fits.{down_pos}
use lib.Ieee.Exact.{HasValue}
use lib.Ieee.Positive.{positive}
use Rattle.lists.proofs.Numbers.{le_or_lt}
use Rattle.lists.proofs.Rows.{row_fits}
use Rattle.floats.specs.Root.{Closest, sqrt_of}
use Rattle.floats.proofs.Format.{in_format, few-places}
use Rattle.floats.proofs.Squares.{sq_mono}
use Rattle.floats.proofs.Unique.{value-times}
use Rattle.floats.proofs.Claims.{claim}

-- ---- a value of the format is l units of 2 ^ -1074, and l has at most 53 digits before its zeros

pub record Digits (l : ℕ) : Type 0 where
  pub m : ℕ
  pub k : ℕ
  pub is : l ≡ m * 2 ^ k
  pub few : m < 2 ^ 53

spread : (m k l : ℕ) → m * 2 ^ k * 2 ^ 1074 ≡ l * 1 → l ≡ m * 2 ^ (k + 1074)
spread m k l e = sym (mul-one l) ∙ sym e ∙ mul_assoc m (2 ^ k) (2 ^ 1074) ∙ ap (λ (z : ℕ). m * z) (sym (pow-add 2 k 1074))

shrink : (m k l : ℕ) → 2 ^ suc k ≤ 2 ^ 1074 → m * 1 * 2 ^ 1074 ≡ l * 2 ^ suc k → l ≡ m * 2 ^ (1074 - suc k)
shrink m k l h e =
    let n : suc k ≤ 1074 = few-places (suc k) h in
    let s : 1074 ≡ 1074 - suc k + suc k = omega arith in
    eq_of_mul-eq-mul_right (2 ^ suc k) (pow_pos (suc k)) l (m * 2 ^ (1074 - suc k))
    (sym e ∙ ap (λ (z : ℕ). z * 2 ^ 1074) (mul-one m) ∙ ap (λ (z : ℕ). m * 2 ^ z) s ∙ ap (λ (z : ℕ). m * z) (pow-add 2 (1074 - suc k) (suc k)) ∙ sym (mul_assoc m (2 ^ (1074 - suc k)) (2 ^ suc k)))

none : (e : ℤ) (l : ℕ) → 0 * up e * 2 ^ 1074 ≡ l * down e → l ≡ 0
none e l h = eq_of_mul-eq-mul_right (down e) (down_pos e) l 0 (sym h ∙ ap (λ (z : ℕ). z * 2 ^ 1074) (zero-mul (up e)) ∙ zero-mul (2 ^ 1074) ∙ sym (zero-mul (down e)))

pub digits_of : (y : Float) (l : ℕ) → T (fits binary64 y) → HasValue y false l (2 ^ 1074) → Digits l
digits_of nan l F h = absurd h
digits_of (inf s) l F h = absurd h
digits_of (fin s zero e) l F h = record { m = 0; k = 0; is = none e l h.1; few = pow_pos 53 }
digits_of (fin s (suc m) (pos k)) l F h = record { m = suc m; k = k + 1074; is = spread (suc m) k l h.1; few = (in_format s (suc m) (pos k) F).0 }
digits_of (fin s (suc m) (negsuc k)) l F h =
    let d = in_format s (suc m) (negsuc k) F in
    record { m = suc m; k = 1074 - suc k; is = shrink (suc m) k l d.1 h.1; few = d.0 }

-- from 2 ^ 52 * 2 ^ a on it is a multiple of 2 ^ a
pub on_grid : (l a : ℕ) → Digits l → 2 ^ 52 * 2 ^ a ≤ l → (p : ℕ) × (l ≡ p * 2 ^ a)
on_grid l a d h =
    let k = d.k in
    let g : a ≤ k = le_of_suc-le-suc (lt_of_not-le (λ (g : suc k ≤ a). lt_irrefl l (lt_of_lt_of_le (subst (λ (z : ℕ). z < 2 ^ (53 + k)) (sym d.is) (shl_lt 53 k d.few)) (le_trans (pow_mono (room k a g)) (le_trans (le_of_eq (pow-add 2 52 a)) h))))) in
    let s : k ≡ k - a + a = omega arith in
    (d.m * 2 ^ (k - a), d.is ∙ ap (λ (z : ℕ). d.m * 2 ^ z) s ∙ ap (λ (z : ℕ). d.m * z) (pow-add 2 (k - a) a) ∙ sym (mul_assoc d.m (2 ^ (k - a)) (2 ^ a)))
  where
    room : (k a : ℕ) → suc k ≤ a → 53 + k ≤ 52 + a
    room k a g = omega arith

-- ---- squares of multiples

square_of : (a u : ℕ) → a * u * (a * u) ≡ a * a * (u * u)
square_of a u = simp (mul_assoc, mul_left_comm)

-- n lies below the square of a, and s reaches a units
reaches : (n a u s : ℕ) → 0 < u → 4 * n < a * a → a * u ≤ s → 4 * (n * (u * u)) < s * s
reaches n a u s U h g =
    lt_of_lt_of_le (lt_of_le_of_lt (le_of_eq (sym (mul_assoc 4 n (u * u)))) (lt_of_lt_of_le (mul-lt-mul_of_pos_right h (mul-pos U U)) (le_of_eq (sym (square_of a u))))) (sq_mono g)

-- n lies above it, and s is within a units
stays : (n a u s : ℕ) → 0 < u → a * a < 4 * n → s ≤ a * u → s * s < 4 * (n * (u * u))
stays n a u s U h g =
    lt_of_le_of_lt (le_trans (sq_mono g) (le_of_eq (square_of a u))) (lt_of_lt_of_le (mul-lt-mul_of_pos_right h (mul-pos U U)) (le_of_eq (mul_assoc 4 n (u * u))))

-- ---- q is the root's digits in units u = 2 * h, both powers of two

module _ (n q a : ℕ) (full : 2 ^ 52 ≤ q) (wide : 2 ^ 104 ≤ n) (below : (2 * q - 1) * (2 * q - 1) < 4 * n) (above : 4 * n < (2 * q + 1) * (2 * q + 1)) where
  abbrev u : ℕ
  u = 2 ^ suc a

  abbrev h : ℕ
  h = 2 ^ a

  two : u ≡ 2 * h
  two = pow-succ' 2 a

  full-units : 2 ^ 52 * u ≤ q * u
  full-units = mul-le-mul_right u full

  -- a value above is a unit further, or more
  pub farther : (l : ℕ) → Digits l → q * u < l → 4 * (n * (u * u)) < (l + q * u) * (l + q * u)
  farther l d g =
      let p = on_grid l (suc a) d (le_trans full-units (le_of_lt g)) in
      let m : q < p.0 = lt_of_not-le (λ (j : p.0 ≤ q). not-le_of_lt (subst (λ (z : ℕ). q * u < z) p.1 g) (mul-le-mul_right u j)) in
      let r : q * u + u ≤ l = subst (λ (z : ℕ). q * u + u ≤ z) (sym p.1) (row_fits u q p.0 m) in
      let t : (2 * q + 1) * u ≡ 2 * (q * u) + u = simp (add-mul, mul_assoc) (omega arith) in
      reaches n (2 * q + 1) u (l + q * u) (pow_pos (suc a)) above (omega arith)

  -- a value below is a unit further, or more
  unit_under : (l : ℕ) → l + u ≤ q * u → (l + q * u) * (l + q * u) < 4 * (n * (u * u))
  unit_under l g =
      let o : 2 * q ≡ suc (2 * q - 1) = omega (arith, lt_of_lt_of_le (pow_pos 52) full) in
      let t : 2 * (q * u) ≡ (2 * q - 1) * u + u = sym (mul_assoc 2 q u) ∙ ap (λ (z : ℕ). z * u) o ∙ suc-mul (2 * q - 1) u in
      stays n (2 * q - 1) u (l + q * u) (pow_pos (suc a)) below (omega arith)

  -- or half a unit, where q is the least number of 53 digits, and then the root is not below it
  half_under : (l : ℕ) → q ≡ 2 ^ 52 → l + h ≤ 2 ^ 53 * h → (l + q * u) * (l + q * u) < 4 * (n * (u * u))
  half_under l e g =
      let r : q * u ≡ 2 ^ 53 * h = ap (λ (z : ℕ). z * u) e ∙ ap (λ (z : ℕ). 2 ^ 52 * z) two ∙ sym (mul_assoc (2 ^ 52) 2 h) in
      let t : 2 ^ 54 * h ≡ (2 ^ 54 - 1) * h + h = suc-mul (2 ^ 54 - 1) h in
      let f : 4 * (4 * n * (h * h)) ≡ 4 * (n * (u * u)) = ap (λ (z : ℕ). 4 * z) (spread-four n h ∙ ap (λ (z : ℕ). n * (z * z)) (sym two)) in
      let w : (2 ^ 54 - 1) * (2 ^ 54 - 1) < 4 * (4 * n) = lt_of_lt_of_le (lit< {m = (2 ^ 54 - 1) * (2 ^ 54 - 1)} {n = 4 * (4 * 2 ^ 104)} tt) (mul-le-mul_left 4 (mul-le-mul_left 4 wide)) in
      subst (λ (z : ℕ). (l + q * u) * (l + q * u) < z) f (stays (4 * n) (2 ^ 54 - 1) h (l + q * u) (pow_pos a) w (omega arith))
    where
      spread-four : (n h : ℕ) → 4 * n * (h * h) ≡ n * (2 * h * (2 * h))
      spread-four n h = let e : 2 * h * (2 * h) ≡ 4 * (h * h) = simp (mul_assoc, mul_left_comm) (omega arith) in rw e (simp (mul_assoc, mul_left_comm))

  -- a multiple of a power of two below m of them is one of them further, or more
  multiple_under : (b l m : ℕ) → Digits l → 2 ^ 52 * 2 ^ b ≤ l → l < m * 2 ^ b → l + 2 ^ b ≤ m * 2 ^ b
  multiple_under b l m d k g =
      let p = on_grid l b d k in
      subst (λ (z : ℕ). z + 2 ^ b ≤ m * 2 ^ b) (sym p.1) (row_fits (2 ^ b) p.0 m (lt_of_not-le (λ (j : m ≤ p.0). not-le_of_lt (subst (λ (z : ℕ). z < m * 2 ^ b) p.1 g) (mul-le-mul_right (2 ^ b) j))))

  least_under : (l : ℕ) → Digits l → q ≤ 2 ^ 52 → l < q * u → (l + q * u) * (l + q * u) < 4 * (n * (u * u))
  least_under l d k g =
      let e : q ≡ 2 ^ 52 = le_antisymm k full in
      let r : q * u ≡ 2 ^ 53 * h = ap (λ (z : ℕ). z * u) e ∙ ap (λ (z : ℕ). 2 ^ 52 * z) two ∙ sym (mul_assoc (2 ^ 52) 2 h) in
      half_under l e (⊎_elim
      (λ (j : 2 ^ 52 * h ≤ l). multiple_under a l (2 ^ 53) d j (subst (λ (z : ℕ). l < z) r g))
      (λ (j : l < 2 ^ 52 * h). omega arith)
      (le_or_lt (2 ^ 52 * h) l))

  pub nearer : (l : ℕ) → Digits l → l < q * u → (l + q * u) * (l + q * u) < 4 * (n * (u * u))
  nearer l d g = ⊎_elim
      (λ (j : 2 ^ 52 * u ≤ l). unit_under l (multiple_under (suc a) l q d j g))
      (λ (j : l < 2 ^ 52 * u). ⊎_elim
      (λ (k : q ≤ 2 ^ 52). least_under l d k g)
      (λ (k : 2 ^ 52 < q). unit_under l (omega (arith, row_fits u (2 ^ 52) q k)))
      (le_or_lt q (2 ^ 52)))
      (le_or_lt (2 ^ 52 * u) l)

-- ---- the claim

pub closest : (x : Float) → T (fits binary64 x) → T (positive x) → Closest x (sqrt_of x)
closest x F P =
    let c = claim x F P in
    let a : ℕ = c.w + 484 in
    let U : ℕ = 2 ^ suc a in
    let k_is : c.q * 2 ^ c.w * 2 ^ 485 ≡ c.q * U = mul_assoc c.q (2 ^ c.w) (2 ^ 485) ∙ ap (λ (z : ℕ). c.q * z) (sym (pow-add 2 c.w 485) ∙ ap (λ (z : ℕ). 2 ^ z) (up_to c.w)) in
    let j-is : c.n * 2 ^ (2 * c.w) * 2 ^ 970 ≡ c.n * (U * U) = mul_assoc c.n (2 ^ (2 * c.w)) (2 ^ 970) ∙ ap (λ (z : ℕ). c.n * z) (sym (pow-add 2 (2 * c.w) 970) ∙ ap (λ (z : ℕ). 2 ^ z) (twice_up_to c.w) ∙ pow-add 2 (suc a) (suc a)) in
    record {
      j = c.n * (U * U);
      k = c.q * U;
      value = subst (λ (z : ℕ). HasValue x false z (2 ^ 2148)) j-is (subst (λ (z : ℕ). HasValue x false (c.n * 2 ^ (2 * c.w) * 2 ^ 970) z) (sym (pow-add 2 1178 970)) (value-times x false (c.n * 2 ^ (2 * c.w)) (2 ^ 1178) (2 ^ 970) c.value));
      root = subst (λ (z : ℕ). HasValue (sqrt_of x) false z (2 ^ 1074)) k_is (subst (λ (z : ℕ). HasValue (sqrt_of x) false (c.q * 2 ^ c.w * 2 ^ 485) z) (sym (pow-add 2 589 485)) (value-times (sqrt_of x) false (c.q * 2 ^ c.w) (2 ^ 589) (2 ^ 485) c.root));
      under = λ y l G h g. nearer c.n c.q a c.full c.wide c.under c.over l (digits_of y l G h) g;
      over = λ y l G h g. farther c.n c.q a c.full c.wide c.under c.over l (digits_of y l G h) g;
    }
  where
    up_to : (w : ℕ) → w + 485 ≡ suc (w + 484)
    up_to w = omega arith

    twice_up_to : (w : ℕ) → 2 * w + 970 ≡ suc (w + 484) + suc (w + 484)
    twice_up_to w = omega arith
