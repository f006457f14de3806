-- Laws of window sets.
use mathlib.Core.Path.{◌≡◌, refl, sym, ap, ◌∙◌}
use mathlib.Core.List.{List, [], ◌∷◌, ◌++◌}
use mathlib.Core.Bool.{Bool, true, false, not, ◌&&◌, true≢false}
use mathlib.Core.Logic.{⊎_elim}
use Prim.Native.Nat.{ℕ, zero, suc, ◌+◌, ◌^◌, ◌<◌, ◌≤◌, min, max}
use native.Mathlib.Numerals.{add-one}
use native.Mathlib.Omega.{arith}
use borrow.Author.Tests.{leb-true, eq-eqb, ne_eqb, not-false}
use lib.Dec.{T, leb}
use lib.ListN.{length, take, drop, get_or, length-take, get_or-eq_default, take-append-drop}
use lib.Seq.{get_or-take, get_or-drop}
use lib.Ieee.{Float, nan, inf, fin}
use lib.Ieee.Scale as scale
use Rattle.std.specs.Float.{float_is_finite}
use Rattle.std.specs.List.{list_all}
use Rattle.lists.specs.Build.{build, fold_from}
use Rattle.lists.specs.Parts.{part}
use Rattle.lists.specs.Totals.{total}
use Rattle.lists.proofs.Flags.{both, by_test}
use Rattle.lists.proofs.Numbers.{le_or_lt, by_place}
use Rattle.lists.proofs.Parts.{take_min, take-both}
use Rattle.lists.proofs.Sums.{total-whole}
use Rattle.floats.specs.Numbers.{nought}
use Rattle.floats.proofs.Signs.{zero-finite, nought-zero}
use Rattle.model.specs.Windows.{between, all_of, finite, widths_fit, all_finite, window_refusal, longest, band_width, window_start}

-- ---- a test of every item, of lists that are joined or cut, and by a rule

pub all_listed : {A : Type 0} (p : A → Bool) (xs : List A) → list_all p xs ≡ all_of p xs
unfolding all_of
all_listed p [] = refl
all_listed p (x ∷ xs) = ap (λ (b : Bool). p x && b) (all_listed p xs)

-- the library's test of a float is this one
pub finite_is : (x : Float) → float_is_finite x ≡ finite x
unfolding float_is_finite finite
finite_is nan = refl
finite_is (inf s) = refl
finite_is (fin s m e) = refl

module _ {A : Type 0} (p : A → Bool) where
  pub all_append : (xs ys : List A) → all_of p (xs ++ ys) ≡ (all_of p xs && all_of p ys)
  unfolding all_of
  all_append [] ys = refl
  all_append (x ∷ xs) ys = ap (λ (b : Bool). p x && b) (all_append xs ys) ∙ joined (p x) (all_of p xs) (all_of p ys)
    where
      joined : (a b c : Bool) → (a && (b && c)) ≡ ((a && b) && c)
      joined true b c = refl
      joined false b c = refl

  pub all-part : (o k : ℕ) (l : List A) → all_of p l ≡ true → all_of p (part o k l) ≡ true
  all-part o k l e =
      let (a, f) = both (all_of p (take o l)) (all_of p (drop o l)) (sym (all_append (take o l) (drop o l)) ∙ rw (take-append-drop o l) e) in
      (both (all_of p (part o k l)) (all_of p (drop k (drop o l))) (sym (all_append (part o k l) (drop k (drop o l))) ∙ rw (take-append-drop k (drop o l)) f)).0

  module _ (f : ℕ → A) where
    pub all_built : (n i : ℕ) → all_of p (build f n) ≡ true → i < n → p (f i) ≡ true
    unfolding build all_of
    all_built zero i e h = absurd (omega arith)
    all_built (suc n) i e h =
        let (a, b) = both (all_of p (build f n)) (all_of p (f n ∷ [])) (sym (all_append (build f n) (f n ∷ [])) ∙ e) in
        by_place n (λ j. j < suc n → p (f j) ≡ true) i (λ d l. all_built n i a (omega arith)) (λ l. (both (p (f n)) true b).0) h

    -- one more that holds, and one that fails
    pub all_more : (i : ℕ) → all_of p (build f i) ≡ true → p (f i) ≡ true → all_of p (build f (i + 1)) ≡ true
    unfolding build all_of
    all_more i k h = rw (add-one, all_append (build f i) (f i ∷ []), k, h)

    pub all_fails : (n i : ℕ) → i < n → p (f i) ≡ false → all_of p (build f n) ≡ false
    all_fails n i l h = by_test (all_of p (build f n)) (λ t. absurd (true≢false (sym (all_built n i t l) ∙ h))) (λ e. e)

-- ---- one window of a set

module _ (ws : List ℕ) (i : ℕ) where
  pub start-at : (k : ℕ) → k ≡ min (min i 4) (length ws) → total (take (2 ^ 32) (take k ws)) ≡ window_start (take 4 ws) i
  start-at k e =
      let l : length (take k ws) ≤ 4294967296 = rw length-take (omega arith) in
      total-whole (take k ws) l ∙ ap total (ap (λ (m : ℕ). take m ws) e ∙ take_min (min i 4) ws ∙ sym (take-both i 4 ws))

-- ---- both of two tests

pub and_first : (a b : Bool) → a && b ≡ true → a ≡ true
and_first true b h = refl
and_first false b h = h

pub and_second : (a b : Bool) → a && b ≡ true → b ≡ true
and_second true b h = h
and_second false b h = absurd (true≢false (sym h))

-- where all numbers are finite, so is each, and each of a part
pub finite-at : (xs : List Float) (i : ℕ) → all_finite xs ≡ true → T (scale.finite (get_or xs i nought))
unfolding all_finite all_of
finite-at [] i h = zero-finite nought nought-zero
finite-at (x ∷ xs) zero h = is x (and_first (finite x) (all_finite xs) h)
  where
    is : (x : Float) → finite x ≡ true → T (scale.finite x)
    is nan e = true≢false (sym e)
    is (inf s) e = true≢false (sym e)
    is (fin s m e) h = tt
finite-at (x ∷ xs) (suc i) h = finite-at xs i (and_second (finite x) (all_finite xs) h)

pub finite-part : (xs : List Float) (a w j : ℕ) → all_finite xs ≡ true → T (scale.finite (get_or (part a w xs) j nought))
finite-part xs a w j h = ⊎_elim
    (λ (l : w ≤ j). rw (get_or-eq_default (part a w xs) nought {n = j} (simp length-take (omega arith))) (zero-finite nought nought-zero))
    (λ (l : j < w). rw (get_or-take w (drop a xs) j nought l, get_or-drop a xs j nought) (finite-at xs (a + j) h))
    (le_or_lt w j)

-- a set that fits has 1 to 4 windows
module _ (ws : List ℕ) (f : widths_fit ws ≡ true) where
  counted : between 1 4 (length ws) ≡ true
  unfolding widths_fit
  counted = and_first (between 1 4 (length ws)) (all_of (between 1 15) ws) f

  pub fit-some : 1 ≤ length ws
  fit-some = leb-true 1 (length ws) (and_first (leb 1 (length ws)) (leb (length ws) 4) counted)

  pub fit-few : length ws ≤ 4
  fit-few = leb-true (length ws) 4 (and_second (leb 1 (length ws)) (leb (length ws) 4) counted)

-- the ways out of a check, once the first two tests have held
module _ (ws : List ℕ) (cs : List Float) (f : Bool) (e : f ≡ widths_fit ws) (n : not f ≡ false) (g : Bool) (d : g ≡ all_finite cs) (m : not g ≡ false) (t : ℕ) (s : t ≡ total (take (2 ^ 32) ws)) where
  summed : t ≡ total ws
  summed = s ∙ total-whole ws (omega (arith, fit-few ws (sym e ∙ not-false f n)))

  pub refused_4 : (t ≡ length cs → ⊥) → ◌≡◌ {A = ℕ} 4 (window_refusal ws cs)
  unfolding window_refusal
  refused_4 x = rw (← e, not-false f n, ← d, not-false g m, ← summed, ne_eqb (length cs) t (λ q. x (sym q)))

  pub refused_none : t ≡ length cs → ◌≡◌ {A = ℕ} 0 (window_refusal ws cs)
  unfolding window_refusal
  refused_none x = rw (← e, not-false f n, ← d, not-false g m, ← summed, eq-eqb (length cs) t (sym x))

-- ---- no window is longer than the longest, and the longest is within the band

fold_start : (a : ℕ) (xs : List ℕ) → a ≤ fold_from max a xs
unfolding fold_from
fold_start a [] = omega arith
fold_start a (x ∷ xs) = omega (arith, fold_start (max a x) xs)

fold_most : (a : ℕ) (xs : List ℕ) (i : ℕ) → get_or xs i 0 ≤ fold_from max a xs
unfolding fold_from
fold_most a [] i = omega arith
fold_most a (x ∷ xs) zero = omega (arith, fold_start (max a x) xs)
fold_most a (x ∷ xs) (suc i) = fold_most (max a x) xs i

pub width_in_band : (widths : List ℕ) (i : ℕ) → get_or widths i 0 ≤ band_width widths
unfolding longest
width_in_band widths i = omega (arith, fold_most 0 widths i)
