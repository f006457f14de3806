-- Laws of parts.
use mathlib.Core.Path.{◌≡◌, refl, sym, ap, ◌∙◌}
use mathlib.Core.List.{List, [], ◌∷◌, map}
use mathlib.Core.Logic.{⊎_elim}
use Prim.Native.Nat.{ℕ, zero, suc, ◌+◌, ◌-◌, ◌*◌, ◌<◌, ◌≤◌, min}
use native.Mathlib.Nat.{zero-min, min-zero, suc-min-suc, add-sub_cancel_left, add_comm}
use native.Mathlib.Numerals.{add-one}
use native.Mathlib.Omega.{arith}
use denote.Ref.{Bor}
use lib.ListN.{length, take, drop, get_or, length-drop, drop_of_length-le}
use lib.Seq.{take_all, take-nil, drop-nil, drop-length, drop-drop, get_or-take, get_or-drop, ext_get_or}
use Rattle.lists.specs.Parts.{part, PartSays}
use Rattle.lists.proofs.Numbers.{le_or_lt}
use Rattle.lists.proofs.Regions.{cut-length}

module _ {A : Type 0} where
  -- a part that ends at the list's end, or before
  pub take_min : (m : ℕ) (l : List A) → take (min m (length l)) l ≡ take m l
  take_min zero l = rw zero-min
  take_min (suc m) [] = rw min-zero
  take_min (suc m) (x ∷ xs) = rw suc-min-suc (ap (λ (r : List A). x ∷ r) (take_min m xs))

  -- a part of a part from the front
  pub take-both : (m n : ℕ) (l : List A) → take m (take n l) ≡ take (min m n) l
  take-both zero n l = rw zero-min
  take-both (suc m) zero l = rw (min-zero (suc m))
  take-both (suc m) (suc n) [] = rw suc-min-suc
  take-both (suc m) (suc n) (x ∷ xs) = rw suc-min-suc (ap (λ (r : List A). x ∷ r) (take-both m n xs))

  -- what lies behind a place lies one item behind the place before it
  pub drop-next : (p : ℕ) (l : List A) {tail : List A} {x : A} → drop p l ≡ x ∷ tail → drop (suc p) l ≡ tail
  drop-next p l e = rw (← add-one p) (sym (drop-drop 1 p l) ∙ ap (drop 1) e)

  pub drop-first : (n : ℕ) (l : List A) → drop n (drop 1 l) ≡ drop (suc n) l
  drop-first n [] = drop-nil n
  drop-first n (x ∷ l) = refl

  -- the three ways to end a part of count from a place on: past the list, at its end, within it
  module _ (l : List A) (from count : ℕ) where
    pub part-past : length l ≤ from → take (length l - length l) (drop (length l) l) ≡ take count (drop from l)
    part-past h = rw (drop_of_length-le l h, drop-length l, take-nil, take-nil)

    pub part-tail : length l - from ≤ count → take (length l - from) (drop from l) ≡ take count (drop from l)
    part-tail h =
        let e : length (drop from l) ≡ length l - from = length-drop from l in
        take_all (length l - from) (drop from l) (omega arith) ∙ sym (take_all count (drop from l) (omega arith))

    pub part-within : take (from + count - from) (drop from l) ≡ take count (drop from l)
    part-within = rw (add-sub_cancel_left from count)

    -- place and count cut down to what there is
    pub part_min : {start n : ℕ} → start ≡ min from (length l) → n ≡ min count (length l - start) → take (start + n - start) (drop start l) ≡ take count (drop from l)
    part_min {start} {n} e f =
        let o : start + n - start ≡ n = omega arith in
        rw o (⊎_elim
        (λ (h : length l ≤ from). let s : start ≡ length l = omega arith in let z : n ≡ length l - length l = omega arith in rw (s, z) (part-past h))
        (λ (h : from < length l).
        let s : start ≡ from = omega arith in
        ⊎_elim
        (λ (g : length l - from ≤ count). let z : n ≡ length l - from = omega arith in rw (s, z) (part-tail g))
        (λ (g : count < length l - from). let z : n ≡ from + count - from = omega arith in rw (s, z) part-within)
        (le_or_lt (length l - from) count))
        (le_or_lt (length l) from))

  -- a part by its items
  pub part_is : (o n : ℕ) (z : A) (xs ys : List A) → o + n ≤ length xs → length ys ≡ n → ((u : ℕ) → u < n → get_or xs (o + u) z ≡ get_or ys u z) → part o n xs ≡ ys
  part_is o n z xs ys h e each =
      let long : length (part o n xs) ≡ n = cut-length o n xs h in
      ext_get_or z (part o n xs) ys (long ∙ sym e) (λ u l. let b : u < n = omega arith in get_or-take n (drop o xs) u z b ∙ get_or-drop o xs u z ∙ each u b)

  -- a part that is cut off a lent list, at the place or at the list's end
  pub part_says : (size : ℕ) (s : Bor (List A)) (from count at : ℕ) (r : Bor (List A))
      → r.now ≡ take count (drop from s.now) → at ≡ min from (length s.now) → r.ref_ptr ≡ (s.ref_ptr.0, at * size + s.ref_ptr.1) → PartSays size s from count r
  part_says size s from count at r n e p = record { numbers = n; itself = p ∙ rw (e, add_comm (min from (length s.now) * size) s.ref_ptr.1) }

  -- the same items at the same place
  pub part-one : (size : ℕ) (s : Bor (List A)) (from count : ℕ) (q r : Bor (List A)) → PartSays size s from count q → PartSays size s from count r → (q.now ≡ r.now) × (q.ref_ptr ≡ r.ref_ptr)
  part-one size s from count q r a b = (a.numbers ∙ sym b.numbers, a.itself ∙ sym b.itself)

-- what g makes of a part's items
pub map-part : {A B : Type 0} (g : A → B) (a m : ℕ) (xs : List A) → map g (part a m xs) ≡ part a m (map g xs)
map-part g zero zero xs = refl
map-part g zero (suc m) [] = refl
map-part {B = B} g zero (suc m) (x ∷ xs) = ap (λ (l : List B). g x ∷ l) (map-part g zero m xs)
map-part g (suc a) zero xs = refl
map-part g (suc a) (suc m) [] = refl
map-part g (suc a) (suc m) (x ∷ xs) = map-part g a (suc m) xs
