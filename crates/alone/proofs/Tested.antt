-- What the values tell of the divisors: where values are finite no divisor is zero or NaN, and an infinite one shows in a row behind it, or as a zero in its own.
use mathlib.Core.Path.{◌≡◌, refl, ap, ◌∙◌, subst}
use mathlib.Core.Bool.{Bool}
use mathlib.Core.List.{List}
use mathlib.Core.Logic.{◌⊎◌, inl, inr}
use Prim.Native.Nat.{ℕ, zero, suc, ◌-◌, ◌<◌}
use native.Mathlib.Decide.{dec_le}
use native.Mathlib.Omega.{arith}
use lib.Dec.{T, eqb-suc-zero}
use lib.IntN.{pos}
use lib.ListN.{length}
use lib.Ieee.{Float, nan, inf, fin, binary64, add, neg, sub, mul, div, unlike}
use lib.Ieee.Scale.{finite}
use Rattle.floats.specs.Signs.{plain, Zero, nonzero}
use Rattle.floats.proofs.Signs.{mul-zero-left, mul-plain}
use Rattle.region.specs.Rows.{elem}
use Rattle.solve.specs.Sums.{less}
use Rattle.solve.specs.Solve.{reach, solution}
use Rattle.alone.specs.Premise.{Sound}
use Rattle.alone.proofs.Blocks.{System, factor_term, reduced, made_of}
use Rattle.alone.proofs.Solving.{system}

-- ---- a finite quotient's divisor
nonzero-divisor : (x y : Float) → T (finite (div binary64 x y)) → T (nonzero y)
unfolding div
nonzero-divisor x nan h = tt
nonzero-divisor x (inf t) h = tt
nonzero-divisor x (fin t (suc n) d) h = tt
nonzero-divisor nan (fin t zero d) h = absurd h
nonzero-divisor (inf s) (fin t zero d) h = absurd h
nonzero-divisor (fin s zero e) (fin t zero d) h = absurd h
nonzero-divisor (fin s (suc m) e) (fin t zero d) h = absurd (rw eqb-suc-zero at h)

over-nan : (x : Float) → T (finite (div binary64 x nan)) → ⊥
unfolding div
over-nan nan h = h
over-nan (inf s) h = h
over-nan (fin s m e) h = h

finite-divisor : (x y : Float) → T (finite (div binary64 x y)) → ((s : Bool) → y ≡ inf s → ⊥) → T (finite y)
finite-divisor x nan h i = absurd (over-nan x h)
finite-divisor x (inf s) h i = absurd (i s refl)
finite-divisor x (fin s m e) h i = tt

-- ---- over an infinity there is a zero, or NaN
over_infinity : (x : Float) (s : Bool) → T (finite (div binary64 x (inf s))) → T (nonzero (div binary64 x (inf s))) → ⊥
unfolding div
over_infinity nan s h z = h
over_infinity (inf t) s h z = h
over_infinity (fin t m e) s h z = z

-- a zero times an infinity
plain-nan : (x : Float) → plain x ≡ nan → x ≡ nan
plain-nan nan e = refl
plain-nan (inf s) e = e
plain-nan (fin s zero d) e = absurd (subst (λ (x : Float). T (finite x)) e tt)
plain-nan (fin s (suc m) d) e = e

zero_infinity : (x : Float) (s : Bool) → Zero x → mul binary64 x (inf s) ≡ nan
unfolding mul
zero_infinity x s z = plain-nan (mul binary64 x (inf s)) (mul-plain binary64 x (inf s) ∙ ap (λ (u : Float). plain (mul binary64 u (inf s))) z)

square_infinity : (x : Float) (s : Bool) → (let l = div binary64 x (inf s) in mul binary64 (mul binary64 l l) (inf s) ≡ nan)
unfolding div mul
square_infinity nan s = refl
square_infinity (inf t) s = refl
square_infinity (fin t m e) s = let l = fin (unlike t s) 0 (pos 0) in zero_infinity (mul binary64 l l) s (mul-zero-left binary64 l l refl tt)

-- ---- NaN stays
sub-nan : (x : Float) → sub binary64 x nan ≡ nan
unfolding sub add neg
sub-nan nan = refl
sub-nan (inf s) = refl
sub-nan (fin s m e) = refl

less-nan : (x : Float) (S : ℕ → Float) (k : ℕ) → S 0 ≡ nan → less x S (suc k) ≡ nan
unfolding less sub add
less-nan x S zero e = rw e (sub-nan x)
less-nan x S (suc k) e = rw (less-nan x S k e)

-- ---- a system with finite values
module _ (w n : ℕ) (x : System w n) (values : (t : ℕ) → t < n → T (finite (x.c t))) where
  quotient : (t : ℕ) → t < n → T (finite (div binary64 (x.g t) (x.f t 0)))
  quotient t h = (made_of w n x t h (values t h)).0

  -- an infinite divisor makes the next row's NaN
  not-before : (t : ℕ) (s : Bool) → 1 < w → suc t < n → x.f t 0 ≡ inf s → ⊥
  not-before t s v h e =
      let k = reach (w - 0) (suc t) - 1 in
      let l : reach (w - 0) (suc t) ≡ suc k = omega arith in
      let q : suc t - 1 ≡ t = omega arith in
      let o : x.f t 1 ≡ div binary64 (reduced w x.a x.f t 1) (inf s) = x.other t 0 (omega arith) v ∙ ap (div binary64 (reduced w x.a x.f t 1)) e in
      let z : factor_term x.f (suc t) 0 0 ≡ nan = rw (q, o, e) (square_infinity (reduced w x.a x.f t 1) s) in
      let d : x.f (suc t) 0 ≡ nan = x.pivot (suc t) h ∙ ap (less (x.a (suc t) 0) (factor_term x.f (suc t) 0)) l ∙ less-nan (x.a (suc t) 0) (factor_term x.f (suc t) 0) k z in
      over-nan (x.g (suc t)) (subst (λ (v : Float). T (finite (div binary64 (x.g (suc t)) v))) d (quotient (suc t) h))

  -- and where no row behind counts, the value is the quotient
  not_last : (t : ℕ) (s : Bool) → t < n → reach w (n - suc t) ≡ 0 → T (nonzero (x.c t)) → x.f t 0 ≡ inf s → ⊥
  unfolding less
  not_last t s h l z e =
      let v : x.c t ≡ div binary64 (x.g t) (inf s) = x.backward t h ∙ rw (l, e) in
      over_infinity (x.g t) s (subst (λ (u : Float). T (finite u)) v (values t h)) (subst (λ (u : Float). T (nonzero u)) v z)

  not_infinite : (t : ℕ) (s : Bool) → t < n → ((1 < w) × (suc t < n)) ⊎ T (nonzero (x.c t)) → x.f t 0 ≡ inf s → ⊥
  not_infinite t s h (inl b) e = not-before t s b.0 b.1 e
  not_infinite t s h (inr z) e = elim (dec_le 1 (reach w (n - suc t))) [
    | yes b ↦ not-before t s (omega arith) (omega arith) e
    | no b ↦ not_last t s h (omega arith) z e
  ]

-- Finite values are enough, but for infinite divisors of rows that no later row needs: there values that are not zero are
pub tested : (w : ℕ) (a r : List Float) → 0 < w → ((t : ℕ) → t < length r → T (finite (elem (solution w a r) t)))
    → ((t : ℕ) → t < length r → ((1 < w) × (suc t < length r)) ⊎ T (nonzero (elem (solution w a r) t))) → Sound w a r
tested w a r some values shown =
    let n = length r in
    let x = system w a r n refl some in
    record {
      finite_divisors = λ t h. finite-divisor (x.g t) (x.f t 0) (quotient w n x values t h) (λ s. not_infinite w n x values t s h (shown t h));
      divisors = λ t h. nonzero-divisor (x.g t) (x.f t 0) (quotient w n x values t h);
      values = values;
    }
