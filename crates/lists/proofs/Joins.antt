-- Laws of lists that are joined from parts, and of the parts of such a list.
use mathlib.Core.Path.{◌≡◌, refl, sym, ap, ◌∙◌}
use mathlib.Core.Logic.{⊎_elim}
use mathlib.Core.List.{List, [], ◌∷◌, ◌++◌, map, flatten, append_assoc, append-nil}
use Prim.Native.Nat.{ℕ, zero, suc, ◌+◌, ◌*◌, ◌<◌, ◌≤◌}
use native.Mathlib.Nat.{mul_comm, zero-mul, suc-mul}
use native.Mathlib.Numerals.{add-one}
use native.Mathlib.Omega.{arith}
use lib.ListN.{length, take, drop, get_or, length-append, length-drop, take-append-drop}
use lib.Seq.{sets, take_at, take_all, take-take, drop-append-add, drop-drop}
use Rattle.lists.specs.Build.{build, rows}
use Rattle.lists.specs.Parts.{part}
use Rattle.lists.proofs.Numbers.{le_or_lt}
use Rattle.lists.proofs.Stores.{sets_behind}
use Rattle.lists.proofs.Fills.{build-length}
use Rattle.lists.proofs.Builds.{build-at}

module _ {A : Type 0} where
  -- a part and what lies behind it
  pub part-joined : (o k e : ℕ) (l : List A) → o + k ≡ e → part o k l ++ drop e l ≡ drop o l
  part-joined o k e l h = rw (← h, ← drop-drop k o l) (take-append-drop k (drop o l))

  -- the last part
  pub part-last : (o k : ℕ) (l : List A) → length l ≤ o + k → part o k l ≡ drop o l
  part-last o k l h = take_all k (drop o l) (simp length-drop (omega arith))

  -- the first part, and one behind it
  pub part-first : (p q : List A) (k : ℕ) → length p ≡ k → part 0 k (p ++ q) ≡ p
  part-first p q k h = take_at p q k h

  pub part-behind : (p q : List A) (a o i k : ℕ) → length p ≡ a → o ≡ a + i → part o k (p ++ q) ≡ part i k q
  part-behind p q a o i k h e = ap (λ (j : ℕ). part j k (p ++ q)) (e ∙ ap (λ (j : ℕ). j + i) (sym h)) ∙ ap (take k) (drop-append-add p q i)

  pub rows_same : (r q : ℕ → List A) (n : ℕ) → ((t : ℕ) → t < n → r t ≡ q t) → rows r n ≡ rows q n
  unfolding rows
  rows_same r q zero h = refl
  rows_same r q (suc n) h = rw (rows_same r q n (λ t l. h t (omega arith)), h n (omega arith))

  -- no row, and one row more
  pub rows_none : (r : ℕ → List A) → rows r 0 ≡ []
  unfolding rows
  rows_none r = refl

  pub rows_next : (r : ℕ → List A) (n : ℕ) → rows r (n + 1) ≡ rows r n ++ r n
  unfolding rows
  rows_next r n = rw add-one

  -- rows of w items each
  module _ (r : ℕ → List A) (w : ℕ) where
    pub rows-length : (n : ℕ) → ((t : ℕ) → t < n → length (r t) ≡ w) → length (rows r n) ≡ n * w
    unfolding rows
    rows-length zero each = sym (zero-mul w)
    rows-length (suc n) each = simp length-append (omega (arith, rows-length n (λ t h. each t (omega arith)), each n (omega arith), suc-mul n w))

    -- a row is stored behind those before it
    pub rows-stored : (n base at : ℕ) (l s s' : List A) → ((t : ℕ) → length (r t) ≡ w) → s ≡ sets l base (rows r n) → at ≡ base + w * n → s' ≡ sets s at (r n) → s' ≡ sets l base (rows r (n + 1))
    rows-stored n base at l s s' each e a f =
        f ∙ sets_behind (rows r n) (r n) l s base at e (omega (arith, rows-length n (λ t h. each t), mul_comm n w)) ∙ ap (sets l base) (sym (rows_next r n))

    pub rows-part : (n t : ℕ) (rest : List A) → t < n → ((i : ℕ) → i < n → length (r i) ≡ w) → part (t * w) w (rows r n ++ rest) ≡ r t
    unfolding rows
    rows-part zero t rest h each = absurd (omega arith)
    rows-part (suc n) t rest h each =
        rw (append_assoc (rows r n) (r n) rest)
        (⊎_elim
        (λ (g : n ≤ t). let e : t ≡ n = omega arith in
        ap (λ (j : ℕ). part (j * w) w (rows r n ++ (r n ++ rest))) e
        ∙ part-behind (rows r n) (r n ++ rest) (n * w) (n * w) 0 w (rows-length n (λ i l. each i (omega arith))) (omega arith)
        ∙ part-first (r n) rest w (each n (omega arith)) ∙ ap r (sym e))
        (λ (g : t < n). rows-part n t (r n ++ rest) g (λ i l. each i (omega arith)))
        (le_or_lt n t))

    -- with nothing behind them
    pub rows-own : (n t : ℕ) → t < n → ((i : ℕ) → i < n → length (r i) ≡ w) → part (t * w) w (rows r n) ≡ r t
    rows-own n t h each = ap (part (t * w) w) (sym (append-nil (rows r n))) ∙ rows-part n t [] h each

  -- a list is its first n parts of w items and what lies behind them
  pub rows_cut : (w n : ℕ) (l : List A) → rows (λ t. part (t * w) w l) n ++ drop (n * w) l ≡ l
  unfolding rows
  rows_cut w zero l = rw zero-mul
  rows_cut w (suc n) l =
      append_assoc (rows (λ t. part (t * w) w l) n) (part (n * w) w l) (drop (suc n * w) l)
      ∙ ap (λ (x : List A). rows (λ t. part (t * w) w l) n ++ x) (part-joined (n * w) w (suc n * w) l (omega (arith, suc-mul n w)))
      ∙ rows_cut w n l

  -- a part of a part
  front-part : (o k w : ℕ) (l : List A) → o + k ≤ w → part o k (take w l) ≡ part o k l
  front-part zero k w l h = take-take k w l (omega arith)
  front-part (suc o) k zero l h = absurd (omega arith)
  front-part (suc o) k (suc w) [] h = refl
  front-part (suc o) k (suc w) (x ∷ l) h = front-part o k w l (omega arith)

  pub part-part : (a w o k : ℕ) (l : List A) → o + k ≤ w → part o k (part a w l) ≡ part (a + o) k l
  part-part a w o k l h = front-part o k w (drop a l) h ∙ ap (take k) (drop-drop o a l)

  -- the first row, and the others behind it
  rows-first : (r : ℕ → List A) (n : ℕ) → rows r (suc n) ≡ r 0 ++ rows (λ i. r (suc i)) n
  unfolding rows
  rows-first r zero = sym (append-nil (r 0))
  rows-first r (suc n) = ap (λ (l : List A). l ++ r (suc n)) (rows-first r n) ∙ append_assoc (r 0) (rows (λ i. r (suc i)) n) (r (suc n))

-- a row for each item of a list
pub flatten_rows : {A B : Type 0} (f : B → List A) (z : B) (xs : List B) → flatten (map f xs) ≡ rows (λ i. f (get_or xs i z)) (length xs)
unfolding flatten
flatten_rows f z [] = unfold rows in refl
flatten_rows {A} f z (x ∷ xs) = ap (λ (l : List A). f x ++ l) (flatten_rows f z xs) ∙ sym (rows-first (λ i. f (get_or (x ∷ xs) i z)) (length xs))

-- and for each of a list by a rule
pub flatten_build : {A B : Type 0} (f : B → List A) (g : ℕ → B) (n : ℕ) → flatten (map f (build g n)) ≡ rows (λ i. f (g i)) n
flatten_build f g n =
    flatten_rows f (g 0) (build g n)
    ∙ ap (rows (λ i. f (get_or (build g n) i (g 0)))) (build-length g n)
    ∙ rows_same (λ i. f (get_or (build g n) i (g 0))) (λ i. f (g i)) n (λ i h. ap f (build-at g n i (g 0) h))
