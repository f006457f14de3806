-- Laws of a record added to another: its flat list is each part added over the shorter.
use mathlib.Core.Path.{◌≡◌, refl, sym, ap, ◌∙◌}
use mathlib.Core.List.{List, [], ◌∷◌, ◌++◌, append_assoc, append-nil}
use mathlib.Core.Logic.{⊎_elim}
use Prim.Native.Nat.{ℕ, suc, ◌+◌, ◌-◌, ◌*◌, ◌<◌, ◌≤◌, min}
use native.Mathlib.Numerals.{add-one}
use native.Mathlib.Omega.{arith}
use lib.ListN.{length, take, drop, get_or, set, length-append, length-drop, take-append-drop, drop_of_length-le}
use lib.Seq.{drop-cons, drop-drop, drop-set-lt, take_all, take_at, drop_at}
use borrow.Rule.Slice.PartMut.{put_mid}
use lib.Ieee.{Float}
use Rattle.lists.proofs.Numbers.{le_or_lt}
use Rattle.lists.proofs.Fills.{stored, finished}
use Rattle.model.specs.declared.mean_vari.MeanVari.{MeanVari}
use Rattle.model.specs.Pair.{pair, pairs_of}
use Rattle.model.specs.Record.{means_of, varis_of, rest_of, first, from_linear, weights, to_linear}
use Rattle.model.specs.Mixing.{more_by, pair_more_by, over_shorter, added_weight, added}
use Rattle.model.proofs.Records.{halves, rest-length, flat}

-- ---- another record's numbers added

pub shorter_length : {A : Type 0} (f : A → A → A) (xs ys : List A) → length (over_shorter f xs ys) ≡ length xs
unfolding over_shorter
shorter_length f [] ys = refl
shorter_length f (x ∷ xs) [] = refl
shorter_length f (x ∷ xs) (y ∷ ys) = ap suc (shorter_length f xs ys)

module _ (w : Float) where
  abbrev pub more : List Float → List Float → List Float
  more = over_shorter (more_by w)

  added-pairs : (ms vs os us : List Float) → length ms ≡ length vs → length os ≡ length us → over_shorter (pair_more_by w) (pairs_of ms vs) (pairs_of os us) ≡ pairs_of (more ms os) (more vs us)
  unfolding pairs_of over_shorter
  added-pairs [] vs os us h k = refl
  added-pairs (m ∷ ms) [] os us h k = absurd (omega arith)
  added-pairs (m ∷ ms) (v ∷ vs) [] [] h k = refl
  added-pairs (m ∷ ms) (v ∷ vs) [] (u ∷ us) h k = absurd (omega arith)
  added-pairs (m ∷ ms) (v ∷ vs) (o ∷ os) [] h k = absurd (omega arith)
  added-pairs (m ∷ ms) (v ∷ vs) (o ∷ os) (u ∷ us) h k = ap (λ (l : List MeanVari). pair (more_by w m o) (more_by w v u) ∷ l) (added-pairs ms vs os us (omega arith) (omega arith))

  added-rest : (s t : List Float) → length s ≤ 1 → weights (added_weight w (first s) (first t)) ≡ more s t
  unfolding over_shorter
  added-rest [] t h = refl
  added-rest (x ∷ []) [] h = refl
  added-rest (x ∷ []) (y ∷ t) h = refl
  added-rest (x ∷ y ∷ s) t h = absurd (omega arith)

  pub added-flat : (l r : List Float) → to_linear (added (from_linear l) w (from_linear r)) ≡ more (means_of l) (means_of r) ++ (more (varis_of l) (varis_of r) ++ more (rest_of l) (rest_of r))
  unfolding from_linear
  added-flat l r =
      let a = more (means_of l) (means_of r) in
      let b = more (varis_of l) (varis_of r) in
      let g = added_weight w (first (rest_of l)) (first (rest_of r)) in
      let h : length a ≡ length b = shorter_length (more_by w) (means_of l) (means_of r) ∙ halves l ∙ sym (shorter_length (more_by w) (varis_of l) (varis_of r)) in
      ap (λ (ps : List MeanVari). to_linear (record { parameters = ps; msd = g })) (added-pairs (means_of l) (varis_of l) (means_of r) (varis_of r) (halves l) (halves r))
      ∙ flat a b g h
      ∙ ap (λ (s : List Float). a ++ (b ++ s)) (added-rest (rest_of l) (rest_of r) (omega (arith, rest-length l)))

-- ---- a loop that adds in place: what is done, with the rest as it is to be, is the whole

module _ {A : Type 0} (f : A → A → A) where
  shorter_none : (xs : List A) → over_shorter f xs [] ≡ xs
  unfolding over_shorter
  shorter_none [] = refl
  shorter_none (x ∷ xs) = refl

  module _ (rhs whole s : List A) (i : ℕ) (k : take i s ++ over_shorter f (drop i s) (drop i rhs) ≡ whole) where
    pub shorter_next : (z : A) → i < length s → i < length rhs → let x = f (get_or s i z) (get_or rhs i z) in take (i + 1) (set s i x) ++ over_shorter f (drop (i + 1) (set s i x)) (drop (i + 1) rhs) ≡ whole
    unfolding over_shorter
    shorter_next z h g =
        let x = f (get_or s i z) (get_or rhs i z) in
        let rest = over_shorter f (drop (suc i) s) (drop (suc i) rhs) in
        let e : over_shorter f (drop (i + 1) (set s i x)) (drop (i + 1) rhs) ≡ rest = rw (add-one, drop-set-lt (suc i) s i x (omega arith)) in
        ap (λ (l : List A). take (i + 1) (set s i x) ++ l) e ∙ stored s i x rest whole h (rw (drop-cons s i z h, drop-cons rhs i z g) at k)

    pub shorter_done : min (length s) (length rhs) ≤ i → s ≡ whole
    unfolding over_shorter
    shorter_done h = ⊎_elim
        (λ (g : length s ≤ i). finished s i (over_shorter f (drop i s) (drop i rhs)) whole g (rw (drop_of_length-le s g)) k)
        (λ (g : i < length s). let r : length rhs ≤ i = omega arith in sym (take-append-drop i s) ∙ (rw (drop_of_length-le rhs r, shorter_none) at k))
        (le_or_lt (length s) i)

-- ---- x over the first n of a list, y over the next n, and then z over the rest: what the third part is, and what stands at the end

abbrev pub xy_over : {A : Type 0} → List A → List A → List A → ℕ → List A
xy_over l x y n = put_mid n (2 * n - n) (x ++ drop n l) y

module _ {A : Type 0} (l x y : List A) (n : ℕ) (e : length x ≡ n) (d : length y ≡ n) where
  abbrev second : List A
  second = xy_over l x y n

  second_is : second ≡ (x ++ y) ++ drop (2 * n) l
  second_is =
      let t : 2 * n - n ≡ n = omega arith in
      let u : n + n ≡ 2 * n = omega arith in
      rw (take_at x (drop n l) n e, t, drop_at x (drop n l) n e, drop-drop n n l, u, append_assoc)

  front : length (x ++ y) ≡ 2 * n
  front = simp length-append (omega arith)

  left : length (drop (2 * n) second) ≡ length second - 2 * n
  left = length-drop (2 * n) second

  pub third_is : let s = xy_over l x y n in take (length s - 2 * n) (drop (2 * n) s) ≡ drop (2 * n) l
  third_is =
      take_all (length second - 2 * n) (drop (2 * n) second) (omega (arith, left))
      ∙ ap (drop (2 * n)) second_is
      ∙ drop_at (x ++ y) (drop (2 * n) l) (2 * n) front

  pub all_three : (z : List A) → let s = xy_over l x y n in put_mid (2 * n) (length s - 2 * n) s z ≡ x ++ (y ++ z)
  all_three z =
      let f : take (2 * n) second ≡ x ++ y = ap (take (2 * n)) second_is ∙ take_at (x ++ y) (drop (2 * n) l) (2 * n) front in
      let b : drop (length second - 2 * n) (drop (2 * n) second) ≡ [] = drop_of_length-le (drop (2 * n) second) {i = length second - 2 * n} (omega (arith, left)) in
      rw (f, b, append-nil, append_assoc)
