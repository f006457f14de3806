-- The operations up to the sign of zeros.
use mathlib.Core.Path.{◌≡◌, refl, sym, ap, ◌∙◌, subst}
use mathlib.Core.Bool.{Bool, true, false, cond, ◌&&◌, beq}
use Prim.Native.Nat.{ℕ, zero, suc, ◌+◌, ◌-◌, ◌*◌, ◌%◌, ◌^◌, ◌≤◌, ◌<◌}
use native.Mathlib.Nat.{zero-mul, mul-zero, zero-add, add-zero, sub-zero, one-mul, mul-one, mul_assoc, mul_comm, mul_left_comm, mul-pos, zero-lt-suc, lt_irrefl, lt_of_mul-lt-mul_right, lt_of_not-le, lt_of_lt_of_le, le_of_suc-le-suc, mul-lt-mul_of_pos_right}
use native.Mathlib.Omega.{arith}
use lib.IntN.{ℤ, pos, negsuc}
use lib.Dec.{T, ltb, leb, eqb, leb-zero, leb-suc-zero, leb-suc-suc, ltb→lt, leb→le, eqb-suc-zero}
use lib.Pow.{pow-add, pow_pos, pow-lt}
use lib.Ieee.{Float, nan, inf, fin, Format, prec, emax, low, up, down, round, sum, add, neg, sub, mul, div, unlike, fits, of_bits}
use lib.Ieee.Fits.{up_pos, down_pos, and_l, and_r, round-fits}
use lib.Ieee.Exact.{HasValue, round_exact}
use lib.Ieee.Scale.{round_same, finite}
use Rattle.floats.specs.Numbers.{nought}
use Rattle.floats.specs.Signs.{plain, Same, Zero, nonzero}
use Rattle.floats.proofs.Unique.{value_unique}

-- ---- a zero rounds to a zero
zero-value : (x : Float) (s : Bool) (c : ℕ) → 0 < c → HasValue x s 0 c → Zero x
zero-value nan s c C h = absurd h
zero-value (inf t) s c C h = absurd h
zero-value (fin t zero e) s c C h = refl
zero-value (fin t (suc m) e) s c C h =
    absurd (lt_irrefl 0 (subst (λ (z : ℕ). 0 < z) (h.1 ∙ zero-mul (down e)) (mul-pos (mul-pos (zero-lt-suc m) (up_pos e)) C)))

round-zero : (f : Format) (s : Bool) (a c : ℕ) → 0 < c → a ≡ 0 → Zero (round f s a c)
round-zero f s a c C e =
    rw e (zero-value (round f s 0 c) s c C (round_exact f s 0 c 0 0 C (pow_pos (prec f)) (pow_pos (low f + suc (emax f))) (simp zero-mul)))

-- ---- a number that the format holds rounds to itself
exponent_le : (a l : ℕ) → 2 ^ a ≤ 2 ^ l → a ≤ l
exponent_le a l h = le_of_suc-le-suc (lt_of_not-le (λ (g : suc l ≤ a). lt_irrefl (2 ^ l) (lt_of_lt_of_le (pow-lt g) h)))

abbrev Placed : Format → ℤ → ℕ → Type 0
Placed f e j = up e * 2 ^ low f ≡ 2 ^ j * down e

place : (f : Format) (e : ℤ) → down e ≤ 2 ^ low f → (j : ℕ) × Placed f e j
place f (pos k) h = (k + low f, sym (pow-add 2 k (low f)) ∙ sym (mul-one (2 ^ (k + low f))))
place f (negsuc k) h =
    let g : suc k ≤ low f = exponent_le (suc k) (low f) h in
    (low f - suc k, one-mul (2 ^ low f) ∙ ap (λ (z : ℕ). 2 ^ z) (split (suc k) (low f) g) ∙ pow-add 2 (low f - suc k) (suc k))
  where
    split : (a l : ℕ) → a ≤ l → l ≡ l - a + a
    split a l h = omega arith

own : (f : Format) (s : Bool) (m : ℕ) (e : ℤ) → m < 2 ^ prec f → down e ≤ 2 ^ low f → m * up e < 2 ^ suc (emax f) * down e → HasValue (round f s (m * up e) (down e)) s (m * up e) (down e)
own f s m e small fine under =
    let (j, p) = place f e fine in
    let q : m * up e * 2 ^ low f ≡ m * 2 ^ j * down e = mul_assoc m (up e) (2 ^ low f) ∙ ap (λ (z : ℕ). m * z) p ∙ sym (mul_assoc m (2 ^ j) (down e)) in
    let u : m * 2 ^ j < 2 ^ (low f + suc (emax f)) =
    lt_of_mul-lt-mul_right (down e)
    (subst (λ (z : ℕ). z < 2 ^ (low f + suc (emax f)) * down e) q
    (subst (λ (z : ℕ). m * up e * 2 ^ low f < z) (simp (pow-add, mul_assoc, mul_comm, mul_left_comm)) (mul-lt-mul_of_pos_right under (pow_pos (low f))))) in
    round_exact f s (m * up e) (down e) m j (down_pos e) small u q

round-own : (f : Format) (s : Bool) (m : ℕ) (e : ℤ) → T (fits f (fin s (suc m) e)) → round f s (suc m * up e) (down e) ≡ fin s (suc m) e
unfolding fits
round-own f s m e t =
    let a = suc m * up e in
    let A : Bool = eqb (suc m % 2) 1 in
    let B : Bool = ltb (suc m) (2 ^ prec f) in
    let C : Bool = leb (down e) (2 ^ low f) in
    let D : Bool = ltb a (2 ^ suc (emax f) * down e) in
    let v = own f s (suc m) e (ltb→lt (suc m) (2 ^ prec f) (and_r A B (and_l (A && B) C (and_l (A && B && C) D t)))) (leb→le (down e) (2 ^ low f) (and_r (A && B) C (and_l (A && B && C) D t))) (ltb→lt a (2 ^ suc (emax f) * down e) (and_r (A && B && C) D t)) in
    value_unique f (round f s a (down e)) (fin s (suc m) e) s a (down e) a (down e) (round-fits f s a (down e)) t (down_pos e) (down_pos e) v (refl, refl) refl

rounded : (f : Format) (s : Bool) (m : ℕ) (e : ℤ) → T (fits f (fin s m e)) → Same (round f s (m * up e) (down e)) (fin s m e)
rounded f s zero e t = round-zero f s (zero * up e) (down e) (down_pos e) (zero-mul (up e))
rounded f s (suc m) e t = ap plain (round-own f s m e t)

-- ---- a sum with a zero
some : (a : ℕ) → ltb 0 (suc a) ≡ true
some a = leb-suc-suc 0 a ∙ leb-zero a

sum-right : (f : Format) (s : Bool) (a : ℕ) (t : Bool) (c : ℕ) → 0 < c → Same (sum f s a t 0 c) (round f s a c)
unfolding sum
sum-right f true zero true c C = refl
sum-right f false zero false c C = refl
sum-right f true zero false c C = round-zero f false 0 c C refl ∙ sym (round-zero f true 0 c C refl)
sum-right f false zero true c C = refl
sum-right f true (suc a) true c C = rw add-zero
sum-right f false (suc a) false c C = rw add-zero
sum-right f true (suc a) false c C = simp (leb-suc-zero, some, sub-zero)
sum-right f false (suc a) true c C = simp (leb-suc-zero, sub-zero)

sum_left : (f : Format) (s t : Bool) (b c : ℕ) → 0 < c → Same (sum f s 0 t b c) (round f t b c)
unfolding sum
sum_left f true true b c C = rw zero-add
sum_left f false false b c C = rw zero-add
sum_left f true false zero c C = refl
sum_left f false true zero c C = round-zero f false 0 c C refl ∙ sym (round-zero f true 0 c C refl)
sum_left f true false (suc b) c C = simp (some, sub-zero)
sum_left f false true (suc b) c C = simp (some, sub-zero)

module _ (f : Format) where
  add_right : (s : Bool) (m : ℕ) (e : ℤ) (t : Bool) (d : ℤ) → Same (add f (fin s m e) (fin t zero d)) (round f s (m * up e) (down e))
  unfolding add
  add_right s m e t d =
      let c = down e * down d in
      let C : 0 < c = mul-pos (down_pos e) (down_pos d) in
      simp zero-mul (sum-right f s (m * up e * down d) t c C)
      ∙ ap plain (round_same f s (m * up e * down d) c (m * up e) (down e) C (down_pos e) (simp (mul_assoc, mul_comm, mul_left_comm)))

  add_left : (s : Bool) (e : ℤ) (t : Bool) (n : ℕ) (d : ℤ) → Same (add f (fin s zero e) (fin t n d)) (round f t (n * up d) (down d))
  unfolding add
  add_left s e t n d =
      let c = down e * down d in
      let C : 0 < c = mul-pos (down_pos e) (down_pos d) in
      simp zero-mul (sum_left f s t (n * up d * down e) c C)
      ∙ ap plain (round_same f t (n * up d * down e) c (n * up d) (down d) C (down_pos d) (simp (mul_assoc, mul_comm, mul_left_comm)))

  -- a sum sees its terms' zeros without their signs
  add-plain : (x y : Float) → Same (add f x y) (add f (plain x) (plain y))
  unfolding add
  add-plain nan y = refl
  add-plain (inf s) nan = refl
  add-plain (inf s) (inf t) = refl
  add-plain (inf s) (fin t zero d) = refl
  add-plain (inf s) (fin t (suc n) d) = refl
  add-plain (fin s zero e) nan = refl
  add-plain (fin s zero e) (inf t) = refl
  add-plain (fin s zero e) (fin t zero d) = add_left s e t zero d ∙ round-zero f t (zero * up d) (down d) (down_pos d) (zero-mul (up d)) ∙ sym (add_left false (pos zero) false zero (pos zero) ∙ round-zero f false (zero * 1) 1 (zero-lt-suc 0) refl)
  add-plain (fin s zero e) (fin t (suc n) d) = add_left s e t (suc n) d ∙ sym (add_left false (pos zero) t (suc n) d)
  add-plain (fin s (suc m) e) nan = refl
  add-plain (fin s (suc m) e) (inf t) = refl
  add-plain (fin s (suc m) e) (fin t zero d) = add_right s (suc m) e t d ∙ sym (add_right s (suc m) e false (pos zero))
  add-plain (fin s (suc m) e) (fin t (suc n) d) = refl

  pub add_same : (x x' y y' : Float) → Same x x' → Same y y' → Same (add f x y) (add f x' y')
  add_same x x' y y' p q = cc (add-plain x y, add-plain x' y')

  neg-plain : (y : Float) → Same (neg y) (neg (plain y))
  unfolding neg
  neg-plain nan = refl
  neg-plain (inf s) = refl
  neg-plain (fin s zero e) = refl
  neg-plain (fin s (suc m) e) = refl

  pub sub_same : (x x' y y' : Float) → Same x x' → Same y y' → Same (sub f x y) (sub f x' y')
  unfolding sub
  sub_same x x' y y' p q = cc (add-plain x (neg y), add-plain x' (neg y'), neg-plain y, neg-plain y')

  -- a product too
  zero-times : (s : Bool) (a b c : ℕ) → 0 < c → Zero (round f s (zero * a * b) c)
  zero-times s a b c C = round-zero f s (zero * a * b) c C (simp zero-mul)

  times_zero : (s : Bool) (a b c : ℕ) → 0 < c → Zero (round f s (a * (zero * b)) c)
  times_zero s a b c C = round-zero f s (a * (zero * b)) c C (simp (zero-mul, mul-zero))

  pub mul-zero-left : (x y : Float) → Zero x → T (finite y) → Zero (mul f x y)
  unfolding mul
  mul-zero-left nan y z h = absurd (never z)
    where
      never : nan ≡ fin false zero (pos zero) → ⊥
      never e = subst (λ (x : Float). T (finite x)) (sym e) tt
  mul-zero-left (inf s) y z h = absurd (never z)
    where
      never : inf s ≡ fin false zero (pos zero) → ⊥
      never e = subst (λ (x : Float). T (finite x)) (sym e) tt
  mul-zero-left (fin s (suc m) e) y z h = absurd (subst (λ (x : Float). T (nonzero x)) z tt)
  mul-zero-left (fin s zero e) nan z h = absurd h
  mul-zero-left (fin s zero e) (inf t) z h = absurd h
  mul-zero-left (fin s zero e) (fin t n d) z h = zero-times (unlike s t) (up e) (n * up d) (down e * down d) (mul-pos (down_pos e) (down_pos d))

  mul-zero-fin : (s : Bool) (m : ℕ) (e : ℤ) (t : Bool) (d : ℤ) → Zero (mul f (fin s m e) (fin t zero d))
  unfolding mul
  mul-zero-fin s m e t d = times_zero (unlike s t) (m * up e) (up d) (down e * down d) (mul-pos (down_pos e) (down_pos d))

  pub mul-plain : (x y : Float) → Same (mul f x y) (mul f (plain x) (plain y))
  unfolding mul
  mul-plain nan y = refl
  mul-plain (inf s) nan = refl
  mul-plain (inf s) (inf t) = refl
  mul-plain (inf s) (fin t zero d) = refl
  mul-plain (inf s) (fin t (suc n) d) = refl
  mul-plain (fin s zero e) nan = refl
  mul-plain (fin s zero e) (inf t) = refl
  mul-plain (fin s zero e) (fin t zero d) = mul-zero-fin s zero e t d ∙ sym (mul-zero-fin false zero (pos zero) false (pos zero))
  mul-plain (fin s zero e) (fin t (suc n) d) = mul-zero-left (fin s zero e) (fin t (suc n) d) refl tt ∙ sym (mul-zero-left (fin false zero (pos zero)) (fin t (suc n) d) refl tt)
  mul-plain (fin s (suc m) e) nan = refl
  mul-plain (fin s (suc m) e) (inf t) = refl
  mul-plain (fin s (suc m) e) (fin t zero d) = mul-zero-fin s (suc m) e t d ∙ sym (mul-zero-fin s (suc m) e false (pos zero))
  mul-plain (fin s (suc m) e) (fin t (suc n) d) = refl

  pub mul-same : (x x' y y' : Float) → Same x x' → Same y y' → Same (mul f x y) (mul f x' y')
  mul-same x x' y y' p q = cc (mul-plain x y, mul-plain x' y')

  pub mul-zero-right : (x y : Float) → T (finite x) → Zero y → Zero (mul f x y)
  mul-zero-right nan y h z = absurd h
  mul-zero-right (inf s) y h z = absurd h
  mul-zero-right (fin s m e) y h z = mul-same (fin s m e) (fin s m e) y (fin false zero (pos zero)) refl z ∙ mul-zero-fin s m e false (pos zero)

  -- a quotient, where the divisor is no zero
  zero-over : (s : Bool) (e : ℤ) (t : Bool) (n : ℕ) (d : ℤ) → Zero (div f (fin s zero e) (fin t (suc n) d))
  unfolding div
  zero-over s e t n d = simp eqb-suc-zero (zero-times (unlike s t) (up e) (down d) (suc n * up d * down e) (mul-pos (mul-pos (zero-lt-suc n) (up_pos d)) (down_pos e)))

  div-left : (x y : Float) → T (nonzero y) → Same (div f x y) (div f (plain x) y)
  unfolding div
  div-left nan y h = refl
  div-left (inf s) y h = refl
  div-left (fin s zero e) nan h = refl
  div-left (fin s zero e) (inf t) h = refl
  div-left (fin s zero e) (fin t zero d) h = absurd h
  div-left (fin s zero e) (fin t (suc n) d) h = zero-over s e t n d ∙ sym (zero-over false (pos zero) t n d)
  div-left (fin s (suc m) e) y h = refl

  plain-nonzero : (y : Float) → T (nonzero y) → plain y ≡ y
  plain-nonzero nan h = refl
  plain-nonzero (inf t) h = refl
  plain-nonzero (fin t zero d) h = absurd h
  plain-nonzero (fin t (suc n) d) h = refl

  pub div_same : (x x' y y' : Float) → Same x x' → Same y y' → T (nonzero y) → T (nonzero y') → Same (div f x y) (div f x' y')
  div_same x x' y y' p q h h' = cc (div-left x y h, div-left x' y' h', plain-nonzero y h, plain-nonzero y' h')

  pub div-zero : (x y : Float) → Zero x → T (nonzero y) → T (finite y) → Zero (div f x y)
  div-zero x nan z h g = absurd g
  div-zero x (inf t) z h g = absurd g
  div-zero x (fin t zero d) z h g = absurd h
  div-zero x (fin t (suc n) d) z h g = div-left x (fin t (suc n) d) h ∙ ap (λ (u : Float). plain (div f u (fin t (suc n) d))) z ∙ zero-over false (pos zero) t n d

  -- ---- a zero taken away
  add-own : (x : Float) → T (fits f x) → Same (add f x (fin false zero (pos zero))) x
  unfolding add
  add-own nan h = refl
  add-own (inf s) h = refl
  add-own (fin s m e) h = add_right s m e false (pos zero) ∙ rounded f s m e h

  pub add-zero-same : (x y : Float) → T (fits f x) → Zero y → Same (add f x y) x
  add-zero-same x y h z = add_same x x y (fin false zero (pos zero)) refl z ∙ add-own x h

  minus_zero : (x y : Float) → Zero y → Same (sub f x y) (add f x (fin false zero (pos zero)))
  unfolding sub neg
  minus_zero x y z =
      let n : plain (neg y) ≡ fin false zero (pos zero) = neg-plain y ∙ ap (λ (u : Float). plain (neg u)) z in
      cc (add-plain x (neg y), add-plain x (fin false zero (pos zero)))

  pub sub-zero-same : (x y : Float) → T (fits f x) → Zero y → Same (sub f x y) x
  sub-zero-same x y h z = minus_zero x y z ∙ add-own x h

  pub zero-sub-zero : (x y : Float) → Zero x → Zero y → Zero (sub f x y)
  unfolding add
  zero-sub-zero x y p q =
      minus_zero x y q ∙ add-plain x (fin false zero (pos zero)) ∙ ap (λ (u : Float). plain (add f u (fin false zero (pos zero)))) p
      ∙ add_right false zero (pos zero) false (pos zero) ∙ round-zero f false (zero * 1) 1 (zero-lt-suc 0) refl

-- ---- what the same numbers share
finite-plain : (x : Float) → finite (plain x) ≡ finite x
finite-plain nan = refl
finite-plain (inf s) = refl
finite-plain (fin s zero e) = refl
finite-plain (fin s (suc m) e) = refl

nonzero-plain : (x : Float) → nonzero (plain x) ≡ nonzero x
nonzero-plain nan = refl
nonzero-plain (inf s) = refl
nonzero-plain (fin s zero e) = refl
nonzero-plain (fin s (suc m) e) = refl

pub finite-same : (x y : Float) → Same x y → T (finite y) → T (finite x)
finite-same x y p h = subst T (sym (sym (finite-plain x) ∙ ap finite p ∙ finite-plain y)) h

pub nonzero-same : (x y : Float) → Same x y → T (nonzero y) → T (nonzero x)
nonzero-same x y p h = subst T (sym (sym (nonzero-plain x) ∙ ap nonzero p ∙ nonzero-plain y)) h

-- ---- what is finite was made of finite numbers
never-either : (b : Bool) (x y : Float) → finite x ≡ false → finite y ≡ false → T (finite (cond b x y)) → ⊥
never-either true x y p q h = subst T p h
never-either false x y p q h = subst T q h

add-finite : (f : Format) (x y : Float) → T (finite (add f x y)) → T (finite x) × T (finite y)
unfolding add
add-finite f nan y h = absurd h
add-finite f (inf s) nan h = absurd h
add-finite f (inf s) (inf t) h = absurd (never-either (beq s t) (inf s) nan refl refl h)
add-finite f (inf s) (fin t n d) h = absurd h
add-finite f (fin s m e) nan h = absurd h
add-finite f (fin s m e) (inf t) h = absurd h
add-finite f (fin s m e) (fin t n d) h = (tt, tt)

neg-finite : (y : Float) → T (finite (neg y)) → T (finite y)
unfolding neg
neg-finite nan h = h
neg-finite (inf s) h = h
neg-finite (fin s m e) h = h

pub sub-finite : (f : Format) (x y : Float) → T (finite (sub f x y)) → T (finite x) × T (finite y)
unfolding sub
sub-finite f x y h = (let g = add-finite f x (neg y) h in (g.0, neg-finite y g.1))

pub mul-finite : (f : Format) (x y : Float) → T (finite (mul f x y)) → T (finite x)
unfolding mul
mul-finite f nan y h = absurd h
mul-finite f (inf s) nan h = absurd h
mul-finite f (inf s) (inf t) h = absurd h
mul-finite f (inf s) (fin t n d) h = absurd (never-either (eqb n 0) nan (inf (unlike s t)) refl refl h)
mul-finite f (fin s m e) y h = tt

pub div-finite : (f : Format) (x y : Float) → T (finite y) → T (finite (div f x y)) → T (finite x)
unfolding div
div-finite f nan y g h = absurd h
div-finite f (inf s) nan g h = absurd h
div-finite f (inf s) (inf t) g h = absurd h
div-finite f (inf s) (fin t n d) g h = absurd h
div-finite f (fin s m e) y g h = tt

pub zero-finite : (x : Float) → Zero x → T (finite x)
zero-finite x z = finite-same x (fin false zero (pos zero)) z tt

pub nought-zero : Zero nought
unfolding of_bits
nought-zero = refl
