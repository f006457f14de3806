-- Laws of where a number first stands in a list, and of a list in which another stands instead.
use mathlib.Core.Path.{◌≡◌, refl, sym, ap, ◌∙◌}
use mathlib.Core.Bool.{true, false, cond}
use mathlib.Core.Logic.{⊎_elim, ◌≢◌}
use mathlib.Core.List.{List, [], ◌∷◌, ◌++◌}
use Prim.Native.Nat.{ℕ, zero, suc, ◌+◌, ◌≤◌, ◌<◌, zero-le}
use native.Mathlib.Omega.{arith}
use lib.Dec.{eqb, ltb}
use lib.ListN.{length, drop, get_or, set, length-map, length-set}
use Rattle.std.specs.List.{position_or_len}
use Rattle.std.specs.Option.{unwrap_or}
use Rattle.std.proofs.Common.{◌==◌, not, Option, Some, None}
use Rattle.lists.specs.Build.{build}
use borrow.Author.Tests.{eq-eqb, eqb-true, ltb-false}
use Rattle.lists.specs.Firsts.{first_at, instead, replaced}
use Rattle.lists.proofs.Numbers.{le_or_lt}
use Rattle.lists.proofs.Fills.{build-read, build-next, build-done}
use Rattle.lists.proofs.Builds.{build_is}

-- ---- what the place says

pub first-within : (v : ℕ) (xs : List ℕ) → first_at v xs ≤ length xs
unfolding first_at
first-within v [] = zero-le
first-within v (x ∷ xs) = (elim (eqb x v) as (λ t. cond t 0 (suc (first_at v xs)) ≤ suc (length xs)) [ true ↦ zero-le | false ↦ omega (arith, first-within v xs) ])

-- the number stands there
pub first_is : (v : ℕ) (xs : List ℕ) (z : ℕ) → first_at v xs < length xs → get_or xs (first_at v xs) z ≡ v
unfolding first_at
first_is v [] z h = absurd (omega arith)
first_is v (x ∷ xs) z h =
    (elim (eqb x v) as (λ t. eqb x v ≡ t → cond t 0 (suc (first_at v xs)) < suc (length xs) → get_or (x ∷ xs) (cond t 0 (suc (first_at v xs))) z ≡ v) [
      | true ↦ λ e g. eqb-true x v e
      | false ↦ λ e g. first_is v xs z (omega arith)
    ])
    refl
    h

-- it is where a search ends that finds it, or the length
pub first_long : (v : ℕ) (xs : List ℕ) → position_or_len (λ x. x == v) xs ≡ first_at v xs
unfolding first_at
first_long v [] = refl
first_long v (x ∷ xs) = (elim (eqb x v) as (λ t. cond (not t) (1 + position_or_len (λ y. y == v) xs) 0 ≡ cond t 0 (suc (first_at v xs))) [ true ↦ refl | false ↦ let e = first_long v xs in omega (arith, e) ])

pub found_or : (v : ℕ) (xs : List ℕ) (r : Option ℕ) → r ≡ cond (ltb (position_or_len (λ x. x == v) xs) (length xs)) (Some (position_or_len (λ x. x == v) xs)) None → unwrap_or r (length xs) ≡ first_at v xs
found_or v xs r e =
    let n : ℕ = position_or_len (λ x. x == v) xs in
    let q : n ≡ first_at v xs = first_long v xs in
    rw e
    ((elim (ltb n (length xs)) as (λ t. ltb n (length xs) ≡ t → unwrap_or (cond t (Some n) None) (length xs) ≡ first_at v xs) [
      | true ↦ λ g. q
      | false ↦ λ g. let h : length xs ≤ n = ltb-false n (length xs) g in let w = first-within v xs in omega (arith, q)
    ])
    refl)

-- and not before
pub first-before : (v : ℕ) (xs : List ℕ) (i z : ℕ) → i < first_at v xs → get_or xs i z ≢ v
unfolding first_at
first-before v [] i z h e = absurd (omega arith)
first-before v (x ∷ xs) zero z h e = let l : 0 < cond (eqb x v) 0 (suc (first_at v xs)) = h in absurd (let q : 0 < 0 = rw (eq-eqb x v e) at l in omega arith)
first-before v (x ∷ xs) (suc i) z h e =
    (elim (eqb x v) as (λ t. suc i < cond t 0 (suc (first_at v xs)) → ⊥) [
      | true ↦ λ g. absurd (omega arith)
      | false ↦ λ g. first-before v xs i z (omega arith) e
    ])
    h

-- so a place where the number stands, and before which it doesn't, is the first
pub first-at : (v : ℕ) (xs : List ℕ) (i z : ℕ) → i < length xs → get_or xs i z ≡ v → ((j : ℕ) → j < i → get_or xs j z ≢ v) → first_at v xs ≡ i
first-at v xs i z h e b = ⊎_elim
    (λ (g : i ≤ first_at v xs). ⊎_elim (λ (k : first_at v xs ≤ i). omega arith) (λ (k : i < first_at v xs). absurd (first-before v xs i z k e)) (le_or_lt (first_at v xs) i))
    (λ (g : first_at v xs < i). absurd (b (first_at v xs) g (first_is v xs z (omega arith))))
    (le_or_lt i (first_at v xs))

-- a number that stands nowhere
pub first-none : (v : ℕ) (xs : List ℕ) (z : ℕ) → ((j : ℕ) → j < length xs → get_or xs j z ≢ v) → first_at v xs ≡ length xs
first-none v xs z b = ⊎_elim
    (λ (g : length xs ≤ first_at v xs). omega (arith, first-within v xs))
    (λ (g : first_at v xs < length xs). absurd (b (first_at v xs) g (first_is v xs z g)))
    (le_or_lt (length xs) (first_at v xs))

-- ---- in a list that is joined from two

pub first-left : (v : ℕ) (xs ys : List ℕ) → first_at v xs < length xs → first_at v (xs ++ ys) ≡ first_at v xs
unfolding first_at
first-left v [] ys h = absurd (omega arith)
first-left v (x ∷ xs) ys h =
    (elim (eqb x v) as (λ t. cond t 0 (suc (first_at v xs)) < suc (length xs) → cond t 0 (suc (first_at v (xs ++ ys))) ≡ cond t 0 (suc (first_at v xs))) [
      | true ↦ λ g. refl
      | false ↦ λ g. ap suc (first-left v xs ys (omega arith))
    ])
    h

pub first-right : (v : ℕ) (xs ys : List ℕ) → first_at v xs ≡ length xs → first_at v (xs ++ ys) ≡ length xs + first_at v ys
unfolding first_at
first-right v [] ys h = omega arith
first-right v (x ∷ xs) ys h =
    (elim (eqb x v) as (λ t. cond t 0 (suc (first_at v xs)) ≡ suc (length xs) → cond t 0 (suc (first_at v (xs ++ ys))) ≡ suc (length xs) + first_at v ys) [
      | true ↦ λ g. absurd (omega arith)
      | false ↦ λ g. let r : first_at v (xs ++ ys) ≡ length xs + first_at v ys = first-right v xs ys (omega arith) in omega arith
    ])
    h

-- ---- another instead of a number

pub length-replaced : (old new : ℕ) (xs : List ℕ) → length (replaced old new xs) ≡ length xs
unfolding replaced
length-replaced old new xs = length-map xs (instead old new)

pub replaced-at : (old new : ℕ) (xs : List ℕ) (i z : ℕ) → i < length xs → get_or (replaced old new xs) i z ≡ instead old new (get_or xs i z)
unfolding replaced
replaced-at old new [] i z h = absurd (omega arith)
replaced-at old new (x ∷ xs) zero z h = refl
replaced-at old new (x ∷ xs) (suc i) z h = replaced-at old new xs i z (omega arith)

-- a loop that replaces has done so with the first i
pub record Replacing (old new : ℕ) (d s : List ℕ) (i : ℕ) : Type 0 where
  pub within : i ≤ length d
  pub so_far : s ≡ build (λ j. instead old new (get_or d j 0)) i ++ drop i d
  pub long : length s ≡ length d

pub replacing : (old new : ℕ) (d : List ℕ) → Replacing old new d d 0
unfolding build
replacing old new d = record { within = zero-le; so_far = refl; long = refl }

module _ {old new : ℕ} {d s : List ℕ} {i : ℕ} (k : Replacing old new d s i) where
  pub replacing-next : (x : ℕ) → i < length s → x ≡ instead old new (get_or s i 0) → Replacing old new d (set s i x) (i + 1)
  replacing-next x h e =
      let g : i < length d = omega (arith, k.long) in
      let f : ℕ → ℕ = λ j. instead old new (get_or d j 0) in
      let q : x ≡ f i = e ∙ ap (instead old new) (build-read f d s i 0 g k.so_far) in
      record { within = omega arith; so_far = build-next f d s i x 0 g q k.so_far; long = length-set s i x ∙ k.long }

  pub all-replaced : length s ≤ i → s ≡ replaced old new d
  all-replaced h =
      let f : ℕ → ℕ = λ j. instead old new (get_or d j 0) in
      build-done f d s i (length d) (omega (arith, k.within, k.long)) (omega arith) k.so_far
      ∙ sym (build_is f (length d) (replaced old new d) 0 (length-replaced old new d) (λ j b. replaced-at old new d j 0 b))
