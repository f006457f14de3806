-- The fronts of two lists that are alike, and a list that begins with another.
use mathlib.Core.Path.{◌≡◌, refl, sym, ap, ◌∙◌}
use mathlib.Core.Bool.{true, false, cond}
use mathlib.Core.Logic.{⊎_elim}
use mathlib.Core.List.{List, [], ◌∷◌, ◌++◌}
use Prim.Native.Nat.{ℕ, zero, suc, ◌+◌, ◌≤◌, ◌<◌, min, zero-le}
use native.Mathlib.Numerals.{add-one}
use native.Mathlib.Omega.{arith}
use lib.Dec.{eqb}
use lib.ListN.{length, take, drop, get_or, length-drop, drop_of_length-le}
use lib.Seq.{drop-cons, take-length, take-append-le, drop-append-le}
use borrow.Author.Tests.{eq-eqb, ne_eqb, eqb-true}
use Rattle.lists.specs.Bytes.{alike, starts_with}
use Rattle.lists.proofs.Numbers.{le_or_lt}

-- ---- a loop that compares, as far as both go, has found the first i alike

pub record Alike (front bytes : List ℕ) (i : ℕ) : Type 0 where
  pub within : i ≤ min (length bytes) (length front)
  pub rest : alike front bytes ≡ i + alike (drop i front) (drop i bytes)

pub none_yet : (front bytes : List ℕ) → Alike front bytes 0
none_yet front bytes = record { within = zero-le; rest = omega arith }

none_left : (front : List ℕ) → alike front [] ≡ 0
unfolding alike
none_left [] = refl
none_left (m ∷ ms) = refl

module _ {front bytes : List ℕ} {n i : ℕ} (e : n ≡ min (length bytes) (length front)) (k : Alike front bytes i) where
  -- one of them ends there
  pub alike-done : n ≤ i → n ≡ alike front bytes
  unfolding alike
  alike-done h = ⊎_elim
      (λ (g : length front ≤ i). omega (arith, k.rest, k.within, ap (λ (l : List ℕ). alike l (drop i bytes)) (drop_of_length-le front g)))
      (λ (g : i < length front).
      let l : length bytes ≤ i = omega arith in
      omega (arith, k.rest, k.within, ap (alike (drop i front)) (drop_of_length-le bytes l), none_left (drop i front)))
      (le_or_lt (length front) i)

  module _ (h : i < n) where
    next : alike (drop i front) (drop i bytes) ≡ cond (eqb (get_or bytes i 0) (get_or front i 0)) (suc (alike (drop (i + 1) front) (drop (i + 1) bytes))) 0
    unfolding alike
    next = rw (add-one, drop-cons front i 0 (omega arith), drop-cons bytes i 0 (omega arith))

    pub alike-stops : (get_or bytes i 0 ≡ get_or front i 0 → ⊥) → i ≡ alike front bytes
    alike-stops d =
        let z : alike (drop i front) (drop i bytes) ≡ 0 = next ∙ rw (ne_eqb (get_or bytes i 0) (get_or front i 0) d) in
        omega (arith, k.rest)

    pub alike_next : get_or bytes i 0 ≡ get_or front i 0 → Alike front bytes (i + 1)
    alike_next q =
        let s : alike (drop i front) (drop i bytes) ≡ suc (alike (drop (i + 1) front) (drop (i + 1) bytes)) = next ∙ rw (eq-eqb (get_or bytes i 0) (get_or front i 0) q) in
        record { within = omega arith; rest = omega (arith, k.rest) }

-- ---- what the number says

-- so many are the same
pub alike_is : (front bytes : List ℕ) (n : ℕ) → n ≤ alike front bytes → take n bytes ≡ take n front
unfolding alike
alike_is front bytes zero h = refl
alike_is [] bytes (suc n) h = absurd (omega arith)
alike_is (m ∷ ms) [] (suc n) h = absurd (omega arith)
alike_is (m ∷ ms) (b ∷ bs) (suc n) h =
    (elim (eqb b m) as (λ t. eqb b m ≡ t → suc n ≤ cond t (suc (alike ms bs)) 0 → b ∷ take n bs ≡ m ∷ take n ms) [
      | true ↦ λ q g. rw (eqb-true b m q, alike_is ms bs n (omega arith))
      | false ↦ λ q g. absurd (omega arith)
    ])
    refl
    h

pub is_alike : (front bytes : List ℕ) → take (length front) bytes ≡ front → alike front bytes ≡ length front
unfolding alike
is_alike [] bytes e = refl
is_alike (m ∷ ms) [] e = absurd (let z : ◌≡◌ {A = ℕ} 0 1 = cc in omega arith)
is_alike (m ∷ ms) (b ∷ bs) e =
    let p : b ≡ m = cc in
    let q : take (length ms) bs ≡ ms = cc in
    rw (eq-eqb b m p, is_alike ms bs q)

-- where one is another, it is the next, whatever comes behind it
pub alike-still : (front bytes rest : List ℕ) → alike front bytes < length front → alike front bytes < length bytes → alike front (take (suc (alike front bytes)) bytes ++ rest) ≡ alike front bytes
unfolding alike
alike-still [] bytes rest h g = absurd (omega arith)
alike-still (m ∷ ms) [] rest h g = absurd (omega arith)
alike-still (m ∷ ms) (b ∷ bs) rest h g =
    (elim (eqb b m) as (λ t. eqb b m ≡ t → cond t (suc (alike ms bs)) 0 < suc (length ms) → cond t (suc (alike ms bs)) 0 < suc (length bs)
    → cond t (suc (alike ms (take (cond t (suc (alike ms bs)) 0) bs ++ rest))) 0 ≡ cond t (suc (alike ms bs)) 0) [
      | true ↦ λ q i j. ap suc (alike-still ms bs rest (omega arith) (omega arith))
      | false ↦ λ q i j. refl
    ])
    refl
    h
    g

pub starts_is : (front bytes : List ℕ) → starts_with front bytes ≡ true → take (length front) bytes ≡ front
unfolding starts_with
starts_is front bytes e =
    let n : length front ≤ alike front bytes = omega (arith, eqb-true (alike front bytes) (length front) e) in
    alike_is front bytes (length front) n ∙ take-length front

pub is_starts : (front bytes : List ℕ) → take (length front) bytes ≡ front → starts_with front bytes ≡ true
unfolding starts_with
is_starts front bytes e = eq-eqb (alike front bytes) (length front) (is_alike front bytes e)

-- ---- the same front, whatever comes behind it

pub part_same : {A : Type 0} (p q r : List A) (at k : ℕ) → at + k ≤ length p → take k (drop at (p ++ q)) ≡ take k (drop at (p ++ r))
part_same p q r at k h =
    let g : at ≤ length p = omega arith in
    let f : k ≤ length (drop at p) = simp length-drop (omega arith) in
    ap (take k) (drop-append-le at p q g) ∙ take-append-le k (drop at p) q f ∙ sym (ap (take k) (drop-append-le at p r g) ∙ take-append-le k (drop at p) r f)

pub alike_same : (front p q r : List ℕ) → length front ≤ length p → alike front (p ++ q) ≡ alike front (p ++ r)
unfolding alike
alike_same [] p q r h = refl
alike_same (m ∷ ms) [] q r h = absurd (omega arith)
alike_same (m ∷ ms) (b ∷ p) q r h = ap (λ (n : ℕ). cond (eqb b m) (suc n) 0) (alike_same ms p q r (omega arith))
