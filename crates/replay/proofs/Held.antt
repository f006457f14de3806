-- A list held to what is right, place by place.
use Prim.Native.Nat.{ℕ, zero, suc, ◌+◌, ◌-◌, ◌≤◌, ◌<◌}
use native.Mathlib.Numerals.{add-one, unary_clauses}
use native.Mathlib.Omega.{arith}
use mathlib.Core.Path.{◌≡◌, refl, sym, ap, subst, ◌∙◌}
use mathlib.Core.Bool.{Bool, true, false, cond}
use mathlib.Core.List.{List, [], ◌∷◌, ◌++◌, map}
use lib.Dec.{T, eqb}
use lib.ListN.{length, drop, get_or, replicate, drop_of_length-le}
use lib.Seq.{drop-nil}
use borrow.Author.Tests.{ne_eqb, eq-eqb, eqb-true}
use Rattle.replay.specs.Holds.{holds}

both : (a b : Bool) → cond a b false ≡ true → (a ≡ true) × (b ≡ true)
both true b e = (refl, e)
both false b e = absurd (subst T (sym e) tt)

module _ {A : Type 0} (f : A → ℕ) (mark : A) where
  -- the next place, and then what is left
  at_next : (z : A) (xs right : List A) (i : ℕ) → i < length xs
      → holds f (drop i xs) (drop i right) mark ≡ cond (eqb (f (get_or xs i z)) (f (get_or right i mark))) (holds f (drop (suc i) xs) (drop (suc i) right) mark) false
  unfolding holds
  at_next z [] right i h = absurd (omega arith)
  at_next z (x ∷ xs) [] zero h = refl
  at_next z (x ∷ xs) (y ∷ ys) zero h = refl
  at_next z (x ∷ xs) [] (suc i) h = rw (drop-nil i) at (at_next z xs [] i (omega arith))
  at_next z (x ∷ xs) (y ∷ ys) (suc i) h = at_next z xs ys i (omega arith)

  -- what is right has no room
  pub too_long : (xs right : List A) → length xs < length right → false ≡ holds f xs right mark
  unfolding holds
  too_long xs [] h = absurd (omega arith)
  too_long [] (y ∷ ys) h = refl
  too_long (x ∷ xs) (y ∷ ys) h =
      elim (eqb (f x) (f y)) as (λ s. false ≡ cond s (holds f xs ys mark) false) [ true ↦ too_long xs ys (omega arith) | false ↦ refl ]

  -- i places agree, so what is left decides
  pub record Agreed (xs right : List A) (i : ℕ) : Type 0 where
    pub sofar : i ≤ length xs
    pub room : length right ≤ length xs
    pub left : holds f (drop i xs) (drop i right) mark ≡ holds f xs right mark

  module _ {xs right : List A} {i : ℕ} (a : Agreed xs right i) where
    pub agreed-more : (z : A) → i < length xs → f (get_or xs i z) ≡ f (get_or right i mark) → Agreed xs right (i + 1)
    agreed-more z h e =
        record { sofar = omega arith; room = a.room; left = rw add-one (sym (rw (eq-eqb _ _ e) at (at_next z xs right i h)) ∙ a.left) }

    -- a place differs, and decides
    pub disagreed : (z : A) → i < length xs → (f (get_or xs i z) ≡ f (get_or right i mark) → ⊥) → false ≡ holds f xs right mark
    disagreed z h n = sym (rw (ne_eqb _ _ n) at (at_next z xs right i h)) ∙ a.left

    -- no place is left
    pub agreed-all : length xs ≤ i → true ≡ holds f xs right mark
    unfolding holds
    agreed-all h = let k : length right ≤ i = omega arith in rw (drop_of_length-le xs h, drop_of_length-le right k) at a.left

  -- a list that holds what is right has its numbers, and the mark's beyond
  pub held : (xs right : List A) → holds f xs right mark ≡ true → map f xs ≡ map f right ++ replicate (length xs - length right) (f mark)
  unfolding holds
  held [] [] e = refl
  held [] (y ∷ ys) e = absurd (subst T (sym e) tt)
  held (x ∷ xs) [] e = let b = both _ _ e in simp unary_clauses (rw (eqb-true (f x) (f mark) b.0) (ap (λ (l : List ℕ). f mark ∷ l) (simp unary_clauses at (held xs [] b.1))))
  held (x ∷ xs) (y ∷ ys) e = let b = both _ _ e in simp unary_clauses (rw (eqb-true (f x) (f y) b.0, held xs ys b.1))
