-- Laws of `sets`, a run of stores that goes as far as the list does: what a loop that stores has done after i turns, and at its end.
use mathlib.Core.Path.{◌≡◌, refl, sym, ap, ◌∙◌}
use mathlib.Core.List.{List, [], ◌∷◌, ◌++◌, append-nil}
use mathlib.Core.Logic.{⊎_elim}
use Prim.Native.Nat.{ℕ, suc, ◌+◌, ◌-◌, ◌<◌, ◌≤◌, min}
use native.Mathlib.Nat.{add-zero, add-suc, suc-add}
use native.Mathlib.Numerals.{add-one}
use native.Mathlib.Omega.{arith}
use lib.ListN.{length, take, drop, get_or, set, replicate, length-append, length-take, length-drop, length-replicate, length-set, get_or-replicate, take-append-drop, drop_of_length-le}
use lib.Seq.{sets, length-sets, sets-eq, set_out, take-suc, take_all, take_at, take-length, length-take-le, get_or-take, drop-append-add, drop-cons, drop-drop, get_or_at, set-set, set_comm}
use Rattle.lists.proofs.Numbers.{le_or_lt}

module _ {A : Type 0} where
  pub sets-append : (xs ys l : List A) (i : ℕ) → sets l i (xs ++ ys) ≡ sets (sets l i xs) (i + length xs) ys
  sets-append [] ys l i = ap (λ (k : ℕ). sets l k ys) (sym (add-zero i))
  sets-append (x ∷ xs) ys l i = sets-append xs ys (set l i x) (suc i) ∙ ap (λ (k : ℕ). sets (sets (set l i x) (suc i) xs) k ys) (suc-add i (length xs) ∙ sym (add-suc i (length xs)))

  -- a run is stored behind another
  pub sets_behind : (xs ys l s : List A) (i k : ℕ) → s ≡ sets l i xs → i + length xs ≡ k → sets s k ys ≡ sets l i (xs ++ ys)
  sets_behind xs ys l s i k e q = ap (λ (x : List A). sets x k ys) e ∙ ap (λ (j : ℕ). sets (sets l i xs) j ys) (sym q) ∙ sym (sets-append xs ys l i)

  -- a run is stored behind the first item
  pub sets-past-first : (vs l : List A) (x : A) (i : ℕ) → sets (x ∷ l) (suc i) vs ≡ x ∷ sets l i vs
  sets-past-first [] l x i = refl
  sets-past-first (v ∷ vs) l x i = sets-past-first vs (set l i v) x (suc i)

  -- past the end nothing is stored
  pub sets-past : (xs l : List A) (i : ℕ) → length l ≤ i → sets l i xs ≡ l
  sets-past [] l i h = refl
  sets-past (x ∷ xs) l i h = ap (λ (k : List A). sets k (suc i) xs) (set_out l i x h) ∙ sets-past xs l (suc i) (omega arith)

  -- a store before a run of stores
  store-before : (vs l : List A) (i j : ℕ) (x : A) → i < j → set (sets l j vs) i x ≡ sets (set l i x) j vs
  store-before [] l i j x h = refl
  store-before (v ∷ vs) l i j x h = store-before vs (set l j v) i (suc j) x (omega arith) ∙ ap (λ (k : List A). sets k (suc j) vs) (set_comm l j i v x (λ e. omega arith))

  -- a run of stores over another that is no longer
  pub sets_over : (xs ys l : List A) (i : ℕ) → length ys ≤ length xs → sets (sets l i ys) i xs ≡ sets l i xs
  sets_over xs [] l i h = refl
  sets_over [] (y ∷ ys) l i h = absurd (omega arith)
  sets_over (x ∷ xs) (y ∷ ys) l i h =
      ap (λ (k : List A). sets k (suc i) xs) (store-before ys (set l i y) i (suc i) x (omega arith) ∙ ap (λ (k : List A). sets k (suc i) ys) (set-set l i y x))
      ∙ sets_over xs ys (set l i x) (suc i) (omega arith)

  -- one more store
  pub store-next : (xs d s : List A) (at i : ℕ) (x z : A) → i < length xs → x ≡ get_or xs i z → s ≡ sets d at (take i xs) → set s (at + i) x ≡ sets d at (take (i + 1) xs)
  store-next xs d s at i x z h q e =
      let l : length (take i xs) ≡ i = length-take-le i xs (omega arith) in
      rw (e, q, add-one, take-suc xs i z h, sets-append, l)

  -- the rest would change nothing
  pub store-done : (xs d s : List A) (at i : ℕ) → min (length xs) (length d - at) ≤ i → s ≡ sets d at (take i xs) → s ≡ sets d at xs
  store-done xs d s at i h e = ⊎_elim
      (λ (g : length xs ≤ i). rw (take_all i xs g) at e)
      (λ (g : i < length xs).
      let l : length (take i xs) ≡ i = length-take-le i xs (omega arith) in
      let p : length (sets d at (take i xs)) ≤ at + length (take i xs) = rw (length-sets d at (take i xs), l) (omega arith) in
      e ∙ sym (ap (sets d at) (sym (take-append-drop i xs)) ∙ sets-append (take i xs) (drop i xs) d at ∙ sets-past (drop i xs) (sets d at (take i xs)) (at + length (take i xs)) p))
      (le_or_lt (length xs) i)

  -- p is done, a run is stored behind it, and the rest is as it was
  pub sets-next : (p vs d : List A) (t u : ℕ) → length p ≡ t → t + length vs ≡ u → u ≤ length d → sets (p ++ drop t d) t vs ≡ p ++ vs ++ drop u d
  sets-next p vs d t u e f h =
      let room : t + length vs ≤ length (p ++ drop t d) = simp (length-append, length-drop) (omega arith) in
      let rest : drop (t + length vs) (p ++ drop t d) ≡ drop u d = rw (← f, ← e) (drop-append-add p (drop (length p) d) (length vs) ∙ drop-drop (length vs) (length p) d) in
      sets-eq vs (p ++ drop t d) t room ∙ rw (take_at p (drop t d) t e, rest)

  -- where there is room for n of them: the front is new, and the rest is as it was
  pub filled : (n : ℕ) (v : A) (l : List A) → n ≤ length l → sets l 0 (replicate n v) ≡ replicate n v ++ drop n l
  filled n v l h =
      let e : length (replicate n v) ≡ n = length-replicate n v in
      let z : 0 + n ≡ n = omega arith in
      sets-eq (replicate n v) l 0 (omega arith) ∙ rw (e, z)

  pub copied : (n : ℕ) (src dst : List A) → n ≤ length src → n ≤ length dst → sets dst 0 (take n src) ≡ take n src ++ drop n dst
  copied n src dst h k =
      let e : length (take n src) ≡ n = length-take-le n src h in
      let z : 0 + n ≡ n = omega arith in
      sets-eq (take n src) dst 0 (omega arith) ∙ rw (e, z)

  -- the whole of a list over one as long
  pub copied-whole : (src dst : List A) → length dst ≡ length src → sets dst 0 (take (length src) src) ≡ src
  copied-whole src dst e =
      let h : length dst ≤ length src = omega arith in
      copied (length src) src dst (omega arith) (omega arith) ∙ rw (take-length src, drop_of_length-le dst h, append-nil)

  -- a loop that stores xs over d, from the front on, as far as both go, has stored i of them
  pub record Storing (xs d s : List A) (end i : ℕ) : Type 0 where
    pub within : i ≤ end
    pub so_far : s ≡ sets d 0 (take i xs)
    pub long : length s ≡ length d

  pub storing : (xs d : List A) (end : ℕ) → Storing xs d d end 0
  storing xs d end = record { within = omega arith; so_far = refl; long = refl }

  module _ (xs d s : List A) (end i : ℕ) (e : end ≡ min (length xs) (length d)) (k : Storing xs d s end i) where
    pub storing-next : (x z : A) → i < end → x ≡ get_or xs i z → Storing xs d (set s i x) end (i + 1)
    storing-next x z h q =
        let o : 0 + i ≡ i = omega arith in
        record {
          within = omega arith;
          so_far = ap (λ (j : ℕ). set s j x) (sym o) ∙ store-next xs d s 0 i x z (omega arith) q k.so_far;
          long = length-set s i x ∙ k.long;
        }

    pub storing-done : end ≤ i → s ≡ sets d 0 xs
    storing-done h = let o : length d - 0 ≡ length d = omega arith in store-done xs d s 0 i (rw o (omega arith)) k.so_far

  -- what is not stored yet is as it was
  pub storing-read : (xs d s : List A) (end i : ℕ) (z : A) → end ≤ length xs → i < end → i < length d → Storing xs d s end i → get_or s i z ≡ get_or d i z
  storing-read xs d s end i z f h l k =
      let n : length (take i xs) ≡ i = length-take-le i xs (omega arith) in
      let room : 0 + length (take i xs) ≤ length d = omega arith in
      let o : 0 + length (take i xs) ≡ i = omega arith in
      ap (λ (w : List A). get_or w i z) (k.so_far ∙ sets-eq (take i xs) d 0 room) ∙ rw (o, drop-cons d i z l, get_or_at (take i xs) (get_or d i z) (drop (suc i) d) z i n)

  -- the same number n times
  module _ (n : ℕ) (v : A) (d s : List A) (end i : ℕ) (e : end ≡ min n (length d)) (k : Storing (replicate n v) d s end i) where
    fill_end : end ≡ min (length (replicate n v)) (length d)
    fill_end = rw (length-replicate n v) e

    pub filling-next : i < end → Storing (replicate n v) d (set s i v) end (i + 1)
    filling-next h = storing-next (replicate n v) d s end i fill_end k v v h (sym (get_or-replicate n i v v (omega arith)))

    pub filling-done : end ≤ i → s ≡ sets d 0 (replicate n v)
    filling-done h = storing-done (replicate n v) d s end i fill_end k h

  -- the first n of another list
  module _ (n : ℕ) (src d s : List A) (end i : ℕ) (e : end ≡ min (min n (length src)) (length d)) (k : Storing (take n src) d s end i) where
    copy_end : end ≡ min (length (take n src)) (length d)
    copy_end = rw (length-take n src) e

    pub copying_next : (x z : A) → i < end → x ≡ get_or src i z → Storing (take n src) d (set s i x) end (i + 1)
    copying_next x z h q = storing-next (take n src) d s end i copy_end k x z h (q ∙ sym (get_or-take n src i z (omega arith)))

    pub copying_done : end ≤ i → s ≡ sets d 0 (take n src)
    copying_done h = storing-done (take n src) d s end i copy_end k h
