-- The solver's lists meet the equations of `Blocks`: two systems joined have the values of each.
use mathlib.Core.Path.{◌≡◌, refl, sym, ap, ◌∙◌, subst}
use mathlib.Core.List.{List, [], ◌∷◌, ◌++◌}
use Prim.Native.Nat.{ℕ, zero, suc, ◌+◌, ◌-◌, ◌*◌, ◌<◌, ◌≤◌}
use native.Mathlib.Nat.{add-zero, zero-add, sub-zero, suc-sub-suc}
use native.Mathlib.Omega.{arith}
use lib.Dec.{T}
use lib.ListN.{length, drop}
use lib.Seq.{get_or-append-add, get_or_at, get_or-drop}
use lib.Ieee.{Float, nan, binary64, div, fits}
use Rattle.floats.specs.Signs.{Same, Zero}
use Rattle.lists.specs.Build.{build}
use Rattle.lists.proofs.Builds.{build-at, grown-at}
use Rattle.lists.proofs.Rows.{row_in}
use Rattle.region.specs.Rows.{elem, entry, row}
use Rattle.region.proofs.Readings.{part_elem}
use Rattle.solve.specs.Sums.{less}
use Rattle.solve.specs.Solve.{reach, factor_at, factor, forward_at, forward, backward_term, backward, solution}
use Rattle.solve.proofs.Orders.{less-same}
use Rattle.solve.proofs.Factors.{factor-length, factor-next, forward-length, forward-next, backward-length}
use Rattle.alone.specs.Premise.{Sound}
use Rattle.alone.proofs.Blocks.{System, Fine, Join, reduced, factor_term, forward_term, fine_from, values-first, values-second, values-fine}
use Rattle.alone.proofs.Blocks as blocks

-- ---- the factors
module _ (w : ℕ) (a : List Float) (n t : ℕ) (h : t < n) where
  abbrev F : List Float
  F = factor w a n

  abbrev P : List Float
  P = factor w a t

  abbrev new : ℕ → List Float
  new u = build (factor_at w (row w a u) (factor w a u) u) w

  -- the rows before row t, as row t sees them
  before : (p j : ℕ) → p < t → j < w → entry w P p j ≡ entry w F p j
  before p j b l = sym (grown-at (factor w a) new (factor-next w a) t n (p * w + j) nan (omega arith) (omega (arith, factor-length w a t, row_in w p t j b l)))

  entry_is : (j : ℕ) → j < w → entry w F t j ≡ factor_at w (row w a t) P t j
  entry_is j l =
      grown-at (factor w a) new (factor-next w a) (t + 1) n (t * w + j) nan (omega arith) (omega (arith, factor-length w a (t + 1), row_in w t (t + 1) j (omega arith) l))
      ∙ rw (factor-next w a t) (ap (λ (u : ℕ). elem (P ++ new t) (u + j)) (sym (factor-length w a t)) ∙ get_or-append-add P (new t) j nan)
      ∙ build-at (factor_at w (row w a t) P t) w j nan l

  reduced_is : (i : ℕ) → i < w → less (elem (row w a t) i) (factor_term (entry w P) t i) (reach (w - i) t) ≡ reduced w (entry w a) (entry w F) t i
  reduced_is i l =
      rw (← part_elem (t * w) w i a l)
      (less-same (entry w a t i) (factor_term (entry w P) t i) (factor_term (entry w F) t i) (reach (w - i) t)
      (λ j b. let p = t - (j + 1) in cc (before p (j + 1) (omega arith) (omega arith), before p (i + (j + 1)) (omega arith) (omega arith), before p 0 (omega arith) (omega arith))))

  pub pivot_is : 0 < w → entry w F t 0 ≡ reduced w (entry w a) (entry w F) t 0
  unfolding factor_at
  pivot_is pos = entry_is 0 pos ∙ reduced_is 0 pos

  pub other_is : (i : ℕ) → suc i < w → entry w F t (suc i) ≡ div binary64 (reduced w (entry w a) (entry w F) t (suc i)) (entry w F t 0)
  unfolding factor_at
  other_is i l = entry_is (suc i) l ∙ rw (reduced_is (suc i) l, reduced_is 0 (omega arith), ← pivot_is (omega arith))

-- ---- forward substitution
pub forward_is : (w : ℕ) (f r : List Float) (n t : ℕ) → t < n → elem (forward w f r n) t ≡ less (elem r t) (forward_term (entry w f) (elem (forward w f r n)) t) (reach w t)
forward_is w f r n t h =
    let new : ℕ → List Float = λ u. forward_at w f (elem r u) (forward w f r u) u ∷ [] in
    let G = forward w f r t in
    grown-at (forward w f r) new (forward-next w f r) (t + 1) n t nan (omega arith) (omega (arith, forward-length w f r (t + 1)))
    ∙ rw (forward-next w f r t) (get_or_at G (forward_at w f (elem r t) G t) [] nan t (forward-length w f r t))
    ∙ less-same (elem r t) (forward_term (entry w f) (elem G) t) (forward_term (entry w f) (elem (forward w f r n)) t) (reach w t)
    (λ j b. cc (grown-at (forward w f r) new (forward-next w f r) t n (t - (j + 1)) nan (omega arith) (omega (arith, forward-length w f r t))))

-- ---- backward substitution, of the values from s on
backward-at : (w : ℕ) (f : List Float) (s : ℕ) (g : List Float) (t : ℕ) → t < length g
    → elem (backward w f s g) t ≡ less (div binary64 (elem g t) (entry w f (s + t) 0)) (backward_term w f (drop (suc t) (backward w f s g)) (s + t)) (reach w (length g - suc t))
unfolding backward
backward-at w f s [] t h = absurd (omega arith)
backward-at w f s (x ∷ xs) zero h = rw (backward-length w f (suc s) xs, add-zero s, suc-sub-suc, sub-zero)
backward-at w f s (x ∷ xs) (suc t) h = (let e : suc s + t ≡ s + suc t = omega arith in rw (← e, suc-sub-suc) (backward-at w f (suc s) xs t (omega arith)))

backward_is : (w : ℕ) (f g : List Float) (t : ℕ) → t < length g
    → elem (backward w f 0 g) t ≡ less (div binary64 (elem g t) (entry w f t 0)) (blocks.backward_term (entry w f) (elem (backward w f 0 g)) t) (reach w (length g - suc t))
backward_is w f g t h =
    let C = backward w f 0 g in
    rw (zero-add t) at (backward-at w f 0 g t h)
    ∙ less-same (div binary64 (elem g t) (entry w f t 0)) (backward_term w f (drop (suc t) C) t) (blocks.backward_term (entry w f) (elem C) t) (reach w (length g - suc t))
    (λ j b. let e : suc t + j ≡ t + (j + 1) = omega arith in rw (get_or-drop (suc t) C j nan, e))

-- ---- a system's numbers
module _ (w : ℕ) (a r : List Float) where
  abbrev factors : List Float
  factors = factor w a (length r)

  abbrev forwards : List Float
  forwards = forward w factors r (length r)

  pub value_is : (n : ℕ) → length r ≡ n → (t : ℕ) → t < n
      → elem (solution w a r) t ≡ less (div binary64 (elem forwards t) (entry w factors t 0)) (blocks.backward_term (entry w factors) (elem (solution w a r)) t) (reach w (n - suc t))
  unfolding solution
  value_is n e t h =
      let l : length forwards ≡ n = forward-length w factors r (length r) ∙ e in
      rw (← l) (backward_is w factors forwards t (omega arith))

  abbrev pub system : (n : ℕ) → length r ≡ n → 0 < w → System w n
  system n e pos = record {
    a = entry w a;
    r = elem r;
    f = entry w factors;
    g = elem forwards;
    c = elem (solution w a r);
    pivot = λ t h. pivot_is w a (length r) t (omega arith) pos;
    other = λ t i h. other_is w a (length r) t (omega arith) i;
    forward = λ t h. forward_is w factors r (length r) t (omega arith);
    backward = value_is n e;
  }

  -- the numbers that arise are finite, and no divisor is zero
  abbrev pub Sane : Type 0
  Sane = Fine w (length r) (entry w factors) (elem forwards) (elem (solution w a r))

-- divisors and values are enough
pub sane : (w : ℕ) (a r : List Float) → 0 < w → ((t j : ℕ) → t < length r → j < w → length r ≤ t + j → Zero (entry w a t j)) → Sound w a r → Sane w a r
sane w a r pos apart s = fine_from w (length r) (system w a r (length r) refl pos) apart s.finite_divisors s.divisors s.values

-- ---- n rows a₁ and their right side r₁, and behind them k rows a₂ and r₂, which they don't reach
pub record Joined (w n k : ℕ) (a r a₁ r₁ a₂ r₂ : List Float) : Type 0 where
  pub all : length r ≡ n + k
  pub fewer : length r₁ ≡ n
  pub others : length r₂ ≡ k
  pub first : (t j : ℕ) → t < n → j < w → Same (entry w a t j) (entry w a₁ t j)
  pub second : (t j : ℕ) → t < k → j < w → Same (entry w a (n + t) j) (entry w a₂ t j)
  pub right_first : (t : ℕ) → t < n → Same (elem r t) (elem r₁ t)
  pub right_second : (t : ℕ) → t < k → Same (elem r (n + t)) (elem r₂ t)
  pub apart : (t j : ℕ) → t < n → j < w → n ≤ t + j → Zero (entry w a₁ t j)
  pub held : (t j : ℕ) → t < n + k → j < w → T (fits binary64 (entry w a t j))
  pub held_right : (t : ℕ) → t < n + k → T (fits binary64 (elem r t))

module _ {w n k : ℕ} {a r a₁ r₁ a₂ r₂ : List Float} (pos : 0 < w) (b : Joined w n k a r a₁ r₁ a₂ r₂) (s₁ : Sane w a₁ r₁) (s₂ : Sane w a₂ r₂) where
  abbrev x : System w (n + k)
  x = system w a r (n + k) b.all pos

  abbrev y : System w n
  y = system w a₁ r₁ n b.fewer pos

  abbrev z : System w k
  z = system w a₂ r₂ k b.others pos

  join : Join w n k x y z
  join = record {
    some = pos;
    fine_first = subst (λ (m : ℕ). Fine w m y.f y.g y.c) b.fewer s₁;
    fine_second = subst (λ (m : ℕ). Fine w m z.f z.g z.c) b.others s₂;
    first = b.first;
    second = b.second;
    right_first = b.right_first;
    right_second = b.right_second;
    apart = b.apart;
    held = b.held;
    held_right = b.held_right;
  }

  pub joined-sane : Sane w a r
  joined-sane = subst (λ (m : ℕ). Fine w m x.f x.g x.c) (sym b.all) (values-fine w n k x y z join)

  pub joined-first : (t : ℕ) → t < n → Same (elem (solution w a r) t) (elem (solution w a₁ r₁) t)
  joined-first = values-first w n k x y z join

  pub joined-second : (t : ℕ) → t < k → Same (elem (solution w a r) (n + t)) (elem (solution w a₂ r₂) t)
  joined-second = values-second w n k x y z join
