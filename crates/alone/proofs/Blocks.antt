-- Band systems over functions of the row and the place: rows that no row before or behind them reaches are solved as if they stood alone, up to the sign of zeros.
use mathlib.Core.Path.{◌≡◌, refl, sym, ap, ◌∙◌, subst}
use Prim.Native.Nat.{ℕ, zero, suc, ◌+◌, ◌-◌, ◌<◌, ◌≤◌}
use native.Mathlib.Nat.{zero-add, le_refl}
use native.Mathlib.Decide.{dec_le}
use native.Mathlib.Numerals.{add-one}
use native.Mathlib.Omega.{arith}
use lib.Dec.{T}
use lib.Ieee.{Float, binary64, mul, div, fits}
use lib.Ieee.Fits.{sub-fits, div-fits}
use lib.Ieee.Scale.{finite}
use Rattle.floats.specs.Signs.{plain, Same, Zero, nonzero}
use Rattle.floats.proofs.Signs.{sub_same, mul-same, div_same, sub-zero-same, zero-sub-zero, mul-zero-left, mul-zero-right, div-zero, finite-same, nonzero-same, sub-finite, mul-finite, div-finite, zero-finite}
use Rattle.solve.specs.Sums.{less}
use Rattle.solve.specs.Solve.{reach}

-- ---- x less the terms S 0, .. S (k - 1)

less-same : (x x' : Float) (S S' : ℕ → Float) (k : ℕ) → Same x x' → ((j : ℕ) → j < k → Same (S j) (S' j)) → Same (less x S k) (less x' S' k)
unfolding less
less-same x x' S S' zero p h = p
less-same x x' S S' (suc k) p h =
    sub_same binary64 (less x S k) (less x' S' k) (S k) (S' k) (less-same x x' S S' k p (λ j l. h j (omega arith))) (h k (omega arith))

less_zero : (x : Float) (S : ℕ → Float) (k : ℕ) → Zero x → ((j : ℕ) → j < k → Zero (S j)) → Zero (less x S k)
unfolding less
less_zero x S zero p h = p
less_zero x S (suc k) p h = zero-sub-zero binary64 (less x S k) (S k) (less_zero x S k p (λ j l. h j (omega arith))) (h k (omega arith))

less-fits : (x : Float) (S : ℕ → Float) (k : ℕ) → T (fits binary64 x) → T (fits binary64 (less x S k))
unfolding less
less-fits x S zero h = h
less-fits x S (suc k) h = sub-fits binary64 (less x S k) (S k)

-- zeros at the end change nothing
less-cut : (x : Float) (S : ℕ → Float) (k m : ℕ) → T (fits binary64 x) → m ≤ k → ((j : ℕ) → j < k → m ≤ j → Zero (S j)) → Same (less x S k) (less x S m)
unfolding less
less-cut x S zero zero f l h = refl
less-cut x S zero (suc m) f l h = absurd (omega arith)
less-cut x S (suc k) m f l h = elim (dec_le m k) [
  | yes g ↦ sub-zero-same binary64 (less x S k) (S k) (less-fits x S k f) (h k (omega arith) g) ∙ less-cut x S k m f g (λ j a. h j (omega arith))
  | no g ↦ (let e : suc k ≡ m = omega arith in rw (← e))
]

-- what is finite was made of finite numbers
less-finite : (x : Float) (S : ℕ → Float) (k : ℕ) → T (finite (less x S k)) → T (finite x) × ((j : ℕ) → j < k → T (finite (S j)))
unfolding less
less-finite x S zero h = (h, λ j l. absurd (omega arith))
less-finite x S (suc k) h =
    let g = sub-finite binary64 (less x S k) (S k) h in
    let r = less-finite x S k g.0 in
    (r.0, λ j l. elim (dec_le (suc j) k) [ yes b ↦ r.1 j b | no b ↦ (let e : j ≡ k = omega arith in rw e g.1) ])

-- ---- a band system

-- a number for each row, and for each row and place
abbrev pub Row : Type 0
Row = ℕ → Float

abbrev pub Rows : Type 0
Rows = ℕ → ℕ → Float

-- what row t - (j + 1) takes off entry i of row t
abbrev pub factor_term : Rows → ℕ → ℕ → ℕ → Float
factor_term f t i j = mul binary64 (mul binary64 (f (t - (j + 1)) (j + 1)) (f (t - (j + 1)) (i + (j + 1)))) (f (t - (j + 1)) 0)

-- entry i of row t, less what the rows before it take off
abbrev pub reduced : ℕ → Rows → Rows → ℕ → ℕ → Float
reduced w a f t i = less (a t i) (factor_term f t i) (reach (w - i) t)

-- what the value at t - (j + 1) takes off that at t, and what the one at t + (j + 1) takes off
abbrev pub forward_term : Rows → Row → ℕ → ℕ → Float
forward_term f g t j = mul binary64 (f (t - (j + 1)) (j + 1)) (g (t - (j + 1)))

abbrev pub backward_term : Rows → Row → ℕ → ℕ → Float
backward_term f c t j = mul binary64 (f t (j + 1)) (c (t + (j + 1)))

-- n rows a of width w and their right side r, with their factors f, and the values g and c of the two substitutions, by the solver's equations
pub record System (w n : ℕ) : Type 0 where
  pub a : Rows
  pub r : Row
  pub f : Rows
  pub g : Row
  pub c : Row
  pub pivot : (t : ℕ) → t < n → f t 0 ≡ reduced w a f t 0
  pub other : (t i : ℕ) → t < n → suc i < w → f t (suc i) ≡ div binary64 (reduced w a f t (suc i)) (f t 0)
  pub forward : (t : ℕ) → t < n → g t ≡ less (r t) (forward_term f g t) (reach w t)
  pub backward : (t : ℕ) → t < n → c t ≡ less (div binary64 (g t) (f t 0)) (backward_term f c t) (reach w (n - suc t))

-- what reaches past row n is zero
abbrev pub Apart : ℕ → ℕ → Rows → Type 0
Apart w n f = (t j : ℕ) → t < n → j < w → n ≤ t + j → Zero (f t j)

-- the numbers of the first n rows are finite, and no divisor is zero
pub record Fine (w n : ℕ) (f : Rows) (g c : Row) : Type 0 where
  pub factors : (t j : ℕ) → t < n → j < w → T (finite (f t j))
  pub divisors : (t : ℕ) → t < n → T (nonzero (f t 0))
  pub forwards : (t : ℕ) → t < n → T (finite (g t))
  pub values : (t : ℕ) → t < n → T (finite (c t))

-- ---- the factors' entries that reach past row n are zeros, where the rows' are
module _ (w n N : ℕ) (x : System w N) (le : n ≤ N) (fin : (t j : ℕ) → t < n → j < w → t + j < n → T (finite (x.f t j))) (piv : (t : ℕ) → t < n → T (nonzero (x.f t 0))) (apart : Apart w n x.a) where
  apart_to : (m : ℕ) → m ≤ n → (t j : ℕ) → t < m → j < w → n ≤ t + j → Zero (x.f t j)
  apart_to zero h t j b l c = absurd (omega arith)
  apart_to (suc m) h t zero b l c = absurd (omega arith)
  apart_to (suc m) h t (suc i) b l c =
      let f = x.f in
      let in-first : t < n = omega arith in
      ap plain (x.other t i (omega arith) l)
      ∙ div-zero binary64 (reduced w x.a f t (suc i)) (f t 0)
      (less_zero (x.a t (suc i)) (factor_term f t (suc i)) (reach (w - suc i) t) (apart t (suc i) in-first l c)
      (λ j d.
      let p = t - (j + 1) in
      mul-zero-left binary64 (mul binary64 (f p (j + 1)) (f p (suc i + (j + 1)))) (f p 0)
      (mul-zero-right binary64 (f p (j + 1)) (f p (suc i + (j + 1))) (fin p (j + 1) (omega arith) (omega arith) (omega arith)) (apart_to m (omega arith) p (suc i + (j + 1)) (omega arith) (omega arith) (omega arith)))
      (fin p 0 (omega arith) (omega arith) (omega arith))))
      (piv t in-first) (fin t 0 in-first (omega arith) (omega arith))

  rows_apart : Apart w n x.f
  rows_apart t j h = apart_to n (le_refl n) t j h

-- ---- the k rows from row m on are those of y, and no row before them reaches them
record Block (w m k N : ℕ) (x : System w N) (y : System w k) : Type 0 where
  some : 0 < w
  inside : m + k ≤ N
  rows : (t j : ℕ) → t < k → j < w → Same (x.a (m + t) j) (y.a t j)
  right : (t : ℕ) → t < k → Same (x.r (m + t)) (y.r t)
  held : (t j : ℕ) → t < N → j < w → T (fits binary64 (x.a t j))
  held_right : (t : ℕ) → t < N → T (fits binary64 (x.r t))
  divisors : (t : ℕ) → t < k → T (nonzero (y.f t 0))
  finite_factors : (t j : ℕ) → t < m → j < w → T (finite (x.f t j))
  finite_forwards : (t : ℕ) → t < m → T (finite (x.g t))
  apart : Apart w m x.f

module _ (w m k N : ℕ) (x : System w N) (y : System w k) (b : Block w m k N x y) where
  abbrev SameFactors : ℕ → Type 0
  SameFactors u = (t j : ℕ) → t < u → j < w → Same (x.f (m + t) j) (y.f t j)

  reduced-same : (t i : ℕ) → t < k → i < w → SameFactors t → Same (reduced w x.a x.f (m + t) i) (reduced w y.a y.f t i)
  reduced-same t i h l ih =
      let f = x.f in
      less-cut (x.a (m + t) i) (factor_term f (m + t) i) (reach (w - i) (m + t)) (reach (w - i) t) (b.held (m + t) i (omega (arith, b.inside)) l) (omega arith)
      (λ j c d.
      let p = m + t - (j + 1) in
      let before : p < m = omega arith in
      mul-zero-left binary64 (mul binary64 (f p (j + 1)) (f p (i + (j + 1)))) (f p 0)
      (mul-zero-left binary64 (f p (j + 1)) (f p (i + (j + 1))) (b.apart p (j + 1) before (omega arith) (omega arith)) (b.finite_factors p (i + (j + 1)) before (omega arith)))
      (b.finite_factors p 0 before (omega arith)))
      ∙ less-same (x.a (m + t) i) (y.a t i) (factor_term f (m + t) i) (factor_term y.f t i) (reach (w - i) t) (b.rows t i h l)
      (λ j c.
      let p = t - (j + 1) in
      let e : m + t - (j + 1) ≡ m + p = omega arith in
      let q = mul-same binary64 (f (m + p) (j + 1)) (y.f p (j + 1)) (f (m + p) (i + (j + 1))) (y.f p (i + (j + 1))) (ih p (j + 1) (omega arith) (omega arith)) (ih p (i + (j + 1)) (omega arith) (omega arith)) in
      rw e (mul-same binary64 (mul binary64 (f (m + p) (j + 1)) (f (m + p) (i + (j + 1)))) (mul binary64 (y.f p (j + 1)) (y.f p (i + (j + 1)))) (f (m + p) 0) (y.f p 0) q (ih p 0 (omega arith) (omega arith))))

  pivot-same : (t : ℕ) → t < k → SameFactors t → Same (x.f (m + t) 0) (y.f t 0)
  pivot-same t h ih = ap plain (x.pivot (m + t) (omega (arith, b.inside))) ∙ reduced-same t 0 h b.some ih ∙ sym (ap plain (y.pivot t h))

  quotient-same : (p q : Float) (t : ℕ) → t < k → Same p q → Same (x.f (m + t) 0) (y.f t 0) → Same (div binary64 p (x.f (m + t) 0)) (div binary64 q (y.f t 0))
  quotient-same p q t h s d = div_same binary64 p q (x.f (m + t) 0) (y.f t 0) s d (nonzero-same (x.f (m + t) 0) (y.f t 0) d (b.divisors t h)) (b.divisors t h)

  row_same : (t j : ℕ) → t < k → j < w → SameFactors t → Same (x.f (m + t) j) (y.f t j)
  row_same t zero h l ih = pivot-same t h ih
  row_same t (suc i) h l ih =
      ap plain (x.other (m + t) i (omega (arith, b.inside)) l)
      ∙ quotient-same (reduced w x.a x.f (m + t) (suc i)) (reduced w y.a y.f t (suc i)) t h (reduced-same t (suc i) h l ih) (pivot-same t h ih)
      ∙ sym (ap plain (y.other t i h l))

  factors_to : (u : ℕ) → u ≤ k → SameFactors u
  factors_to zero h t j c l = absurd (omega arith)
  factors_to (suc u) h t j c l = row_same t j (omega arith) l (λ p i d. factors_to u (omega arith) p i (omega arith))

  factors-same : SameFactors k
  factors-same = factors_to k (le_refl k)

  forwards_to : (u : ℕ) → u ≤ k → (t : ℕ) → t < u → Same (x.g (m + t)) (y.g t)
  forwards_to zero h t c = absurd (omega arith)
  forwards_to (suc u) h t c =
      let f = x.f in
      let g = x.g in
      ap plain (x.forward (m + t) (omega (arith, b.inside)))
      ∙ less-cut (x.r (m + t)) (forward_term f g (m + t)) (reach w (m + t)) (reach w t) (b.held_right (m + t) (omega (arith, b.inside))) (omega arith)
      (λ j d l.
      let p = m + t - (j + 1) in
      mul-zero-left binary64 (f p (j + 1)) (g p) (b.apart p (j + 1) (omega arith) (omega arith) (omega arith)) (b.finite_forwards p (omega arith)))
      ∙ less-same (x.r (m + t)) (y.r t) (forward_term f g (m + t)) (forward_term y.f y.g t) (reach w t) (b.right t (omega arith))
      (λ j d.
      let p = t - (j + 1) in
      let e : m + t - (j + 1) ≡ m + p = omega arith in
      rw e (mul-same binary64 (f (m + p) (j + 1)) (y.f p (j + 1)) (g (m + p)) (y.g p) (factors-same p (j + 1) (omega arith) (omega arith)) (forwards_to u (omega arith) p (omega arith))))
      ∙ sym (ap plain (y.forward t (omega arith)))

  forwards-same : (t : ℕ) → t < k → Same (x.g (m + t)) (y.g t)
  forwards-same = forwards_to k (le_refl k)

  -- the last rows first; what the rows behind take off is zero
  module _ (behind : (t j : ℕ) → t < k → j + 1 < w → k ≤ t + (j + 1) → m + t + (j + 1) < N → Zero (backward_term x.f x.c (m + t) j)) where
    values_to : (u t : ℕ) → t < k → k ≤ t + u → Same (x.c (m + t)) (y.c t)
    values_to zero t h d = absurd (omega arith)
    values_to (suc u) t h d =
        let f = x.f in
        let c = x.c in
        let q = div binary64 (x.g (m + t)) (f (m + t) 0) in
        ap plain (x.backward (m + t) (omega (arith, b.inside)))
        ∙ less-cut q (backward_term f c (m + t)) (reach w (N - suc (m + t))) (reach w (k - suc t)) (div-fits binary64 (x.g (m + t)) (f (m + t) 0)) (omega (arith, b.inside))
        (λ j l s. behind t j h (omega arith) (omega arith) (omega arith))
        ∙ less-same q (div binary64 (y.g t) (y.f t 0)) (backward_term f c (m + t)) (backward_term y.f y.c t) (reach w (k - suc t))
        (quotient-same (x.g (m + t)) (y.g t) t h (forwards-same t h) (factors-same t 0 h b.some))
        (λ j l.
        let p = t + (j + 1) in
        let e : m + t + (j + 1) ≡ m + p = omega arith in
        rw e (mul-same binary64 (f (m + t) (j + 1)) (y.f t (j + 1)) (c (m + p)) (y.c p) (factors-same t (j + 1) h (omega arith)) (values_to u p (omega arith) (omega arith))))
        ∙ sym (ap plain (y.backward t h))

    values_same : (t : ℕ) → t < k → Same (x.c (m + t)) (y.c t)
    values_same t h = values_to k t h (omega arith)

-- ---- two systems joined

-- a fact of the first n and of the next k
split_at : (n k : ℕ) (P : ℕ → Type 0) → ((t : ℕ) → t < n → P t) → ((t : ℕ) → t < k → P (n + t)) → (t : ℕ) → t < n + k → P t
split_at n k P p q t h = elim (dec_le (suc t) n) [
  | yes b ↦ p t b
  | no b ↦ (let e : n + (t - n) ≡ t = omega arith in subst P e (q (t - n) (omega arith)))
]

-- x has y's rows and behind them z's, and none of y's reaches them
pub record Join (w n k : ℕ) (x : System w (n + k)) (y : System w n) (z : System w k) : Type 0 where
  pub some : 0 < w
  pub fine_first : Fine w n y.f y.g y.c
  pub fine_second : Fine w k z.f z.g z.c
  pub first : (t j : ℕ) → t < n → j < w → Same (x.a t j) (y.a t j)
  pub second : (t j : ℕ) → t < k → j < w → Same (x.a (n + t) j) (z.a t j)
  pub right_first : (t : ℕ) → t < n → Same (x.r t) (y.r t)
  pub right_second : (t : ℕ) → t < k → Same (x.r (n + t)) (z.r t)
  pub apart : Apart w n y.a
  pub held : (t j : ℕ) → t < n + k → j < w → T (fits binary64 (x.a t j))
  pub held_right : (t : ℕ) → t < n + k → T (fits binary64 (x.r t))

module _ (w n k : ℕ) (x : System w (n + k)) (y : System w n) (z : System w k) (b : Join w n k x y z) where
  first_block : Block w 0 n (n + k) x y
  first_block = record {
    some = b.some;
    inside = omega arith;
    rows = λ t j h l. rw (zero-add t) (b.first t j h l);
    right = λ t h. rw (zero-add t) (b.right_first t h);
    held = b.held;
    held_right = b.held_right;
    divisors = b.fine_first.divisors;
    finite_factors = λ t j h. absurd (omega arith);
    finite_forwards = λ t h. absurd (omega arith);
    apart = λ t j h. absurd (omega arith);
  }

  factors-first : (t j : ℕ) → t < n → j < w → Same (x.f t j) (y.f t j)
  factors-first t j h l = rw (zero-add t) at (factors-same w 0 n (n + k) x y first_block t j h l)

  forwards-first : (t : ℕ) → t < n → Same (x.g t) (y.g t)
  forwards-first t h = rw (zero-add t) at (forwards-same w 0 n (n + k) x y first_block t h)

  finite-first : (t j : ℕ) → t < n → j < w → T (finite (x.f t j))
  finite-first t j h l = finite-same (x.f t j) (y.f t j) (factors-first t j h l) (b.fine_first.factors t j h l)

  divisors-first : (t : ℕ) → t < n → T (nonzero (x.f t 0))
  divisors-first t h = nonzero-same (x.f t 0) (y.f t 0) (factors-first t 0 h b.some) (b.fine_first.divisors t h)

  finite-forwards : (t : ℕ) → t < n → T (finite (x.g t))
  finite-forwards t h = finite-same (x.g t) (y.g t) (forwards-first t h) (b.fine_first.forwards t h)

  apart-first : Apart w n x.f
  apart-first = rows_apart w n (n + k) x (omega arith) (λ t j h l c. finite-first t j h l) divisors-first (λ t j h l c. b.first t j h l ∙ b.apart t j h l c)

  second_block : Block w n k (n + k) x z
  second_block = record {
    some = b.some;
    inside = le_refl (n + k);
    rows = b.second;
    right = b.right_second;
    held = b.held;
    held_right = b.held_right;
    divisors = b.fine_second.divisors;
    finite_factors = finite-first;
    finite_forwards = finite-forwards;
    apart = apart-first;
  }

  pub values-second : (t : ℕ) → t < k → Same (x.c (n + t)) (z.c t)
  values-second = values_same w n k (n + k) x z second_block (λ t j h l c d. absurd (omega arith))

  finite-second : (t : ℕ) → t < k → T (finite (x.c (n + t)))
  finite-second t h = finite-same (x.c (n + t)) (z.c t) (values-second t h) (b.fine_second.values t h)

  pub values-first : (t : ℕ) → t < n → Same (x.c t) (y.c t)
  values-first t h = rw (zero-add t) at (values_same w 0 n (n + k) x y first_block
      (λ u j d l c s.
      let e : 0 + u + (j + 1) ≡ n + (u + (j + 1) - n) = omega arith in
      rw (e, zero-add u) (mul-zero-left binary64 (x.f u (j + 1)) (x.c (n + (u + (j + 1) - n))) (apart-first u (j + 1) d l c) (finite-second (u + (j + 1) - n) (omega arith))))
      t h)

  pub values-fine : Fine w (n + k) x.f x.g x.c
  values-fine =
      let F = factors-same w n k (n + k) x z second_block in
      let G = forwards-same w n k (n + k) x z second_block in
      record {
        factors = λ t j h l. split_at n k (λ u. T (finite (x.f u j))) (λ u c. finite-first u j c l) (λ u c. finite-same (x.f (n + u) j) (z.f u j) (F u j c l) (b.fine_second.factors u j c l)) t h;
        divisors = split_at n k (λ u. T (nonzero (x.f u 0))) divisors-first (λ u c. nonzero-same (x.f (n + u) 0) (z.f u 0) (F u 0 c b.some) (b.fine_second.divisors u c));
        forwards = split_at n k (λ u. T (finite (x.g u))) finite-forwards (λ u c. finite-same (x.g (n + u)) (z.g u) (G u c) (b.fine_second.forwards u c));
        values = split_at n k (λ u. T (finite (x.c u))) (λ u c. finite-same (x.c u) (y.c u) (values-first u c) (b.fine_first.values u c)) finite-second;
      }

-- ---- finite divisors and values are enough: what is not finite stays so

-- what a value is made of
pub made_of : (w n : ℕ) (x : System w n) (t : ℕ) → t < n → T (finite (x.c t))
    → T (finite (div binary64 (x.g t) (x.f t 0))) × ((j : ℕ) → j < reach w (n - suc t) → T (finite (backward_term x.f x.c t j)))
made_of w n x t h v = less-finite (div binary64 (x.g t) (x.f t 0)) (backward_term x.f x.c t) (reach w (n - suc t)) (subst (λ (u : Float). T (finite u)) (x.backward t h) v)

module _ (w n : ℕ) (x : System w n) (apart : Apart w n x.a) (fine : (t : ℕ) → t < n → T (finite (x.f t 0))) (piv : (t : ℕ) → t < n → T (nonzero (x.f t 0))) (vals : (t : ℕ) → t < n → T (finite (x.c t))) where
  within : (t j : ℕ) → t < n → j < w → t + j < n → T (finite (x.f t j))
  within t zero h l b = fine t h
  within t (suc j) h l b = rw (← add-one j) (mul-finite binary64 (x.f t (j + 1)) (x.c (t + (j + 1))) ((made_of w n x t h (vals t h)).1 j (omega arith)))

  pub fine_from : Fine w n x.f x.g x.c
  fine_from = record {
    factors = λ t j h l. elim (dec_le n (t + j)) [ yes b ↦ zero-finite (x.f t j) (rows_apart w n n x (le_refl n) within piv apart t j h l b) | no b ↦ within t j h l (omega arith) ];
    divisors = piv;
    forwards = λ t h. div-finite binary64 (x.g t) (x.f t 0) (fine t h) (made_of w n x t h (vals t h)).0;
    values = vals;
  }
