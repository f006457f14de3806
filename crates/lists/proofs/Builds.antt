-- Laws of lists by a rule.
use mathlib.Core.Path.{◌≡◌, refl, sym, ap, ◌∙◌}
use mathlib.Core.List.{List, [], ◌∷◌, ◌++◌, append_assoc, append-nil, map, map-append}
use mathlib.Core.Logic.{⊎_elim}
use Prim.Native.Nat.{ℕ, zero, suc, ◌+◌, ◌-◌, ◌*◌, ◌/◌, ◌%◌, ◌<◌, ◌≤◌}
use native.Mathlib.Nat.{add-zero, mod-eq_of_lt, div-eq_of_lt, mul-add-mod_self_right, mul-add-div_right}
use native.Mathlib.Numerals.{add-one}
use native.Mathlib.Omega.{arith}
use lib.ListN.{length, get_or, drop, length-append, length-drop, get_or-append}
use lib.Seq.{ext_get_or, get_or_at, get_or-append-add, get_or-drop}
use Rattle.lists.specs.Build.{build, fold_from}
use Rattle.lists.specs.Parts.{part}
use Rattle.lists.specs.Totals.{total}
use Rattle.lists.proofs.Fills.{build-length}
use Rattle.lists.proofs.Numbers.{le_or_lt}
use Rattle.lists.proofs.Parts.{part_is}
use Rattle.lists.proofs.Rows.{row_in}
use Rattle.lists.proofs.Sums.{total-append}

module _ {A : Type 0} (f : ℕ → A) where
  pub build-at : (n j : ℕ) (z : A) → j < n → get_or (build f n) j z ≡ f j
  unfolding build
  build-at zero j z h = absurd (omega arith)
  build-at (suc n) j z h = ⊎_elim
      (λ (l : n ≤ j). let e : j ≡ n = omega arith in rw e (get_or_at (build f n) (f n) [] z n (build-length f n)))
      (λ (l : j < n). get_or-append (build f n) (f n ∷ []) z j (rw (build-length f n) l) ∙ build-at n j z l)
      (le_or_lt n j)

  -- a list with these elements
  pub build_is : (n : ℕ) (l : List A) (z : A) → length l ≡ n → ((j : ℕ) → j < n → get_or l j z ≡ f j) → l ≡ build f n
  build_is n l z e h = ext_get_or z l (build f n) (e ∙ sym (build-length f n)) (λ j b. let q : j < n = omega arith in h j q ∙ sym (build-at n j z q))

  pub build-same : (g : ℕ → A) (n : ℕ) → ((j : ℕ) → j < n → f j ≡ g j) → build f n ≡ build g n
  unfolding build
  build-same g zero h = refl
  build-same g (suc n) h = rw (build-same g n (λ j l. h j (omega arith)), h n (omega arith))

  -- the elements from m on are there already
  pub build-rest : (d : List A) (m : ℕ) (z : A) → m ≤ length d → ((j : ℕ) → m ≤ j → j < length d → get_or d j z ≡ f j) → build f m ++ drop m d ≡ build f (length d)
  build-rest d m z l h =
      let front : length (build f m) ≡ m = build-length f m in
      build_is (length d) (build f m ++ drop m d) z (simp (length-append, length-drop) (omega (arith, front)))
      (λ j b. ⊎_elim
      (λ (g : m ≤ j). let e : j ≡ length (build f m) + (j - m) = omega arith in
      let p : m + (j - m) ≡ j = omega arith in
      ap (λ (i : ℕ). get_or (build f m ++ drop m d) i z) e ∙ get_or-append-add (build f m) (drop m d) (j - m) z ∙ get_or-drop m d (j - m) z ∙ rw p (h j g b))
      (λ (g : j < m). get_or-append (build f m) (drop m d) z j (omega arith) ∙ build-at m j z g)
      (le_or_lt m j))

module _ {A : Type 0} where
  -- the first element is the rule's first
  pub build-first : (f : ℕ → A) (n : ℕ) → build f (suc n) ≡ f 0 ∷ build (λ i. f (suc i)) n
  unfolding build
  build-first f zero = refl
  build-first f (suc n) = ap (λ (l : List A). l ++ (f (suc n) ∷ [])) (build-first f n)

  -- a part
  pub part-build : (f : ℕ → A) (a m n : ℕ) → a + m ≤ n → part a m (build f n) ≡ build (λ i. f (a + i)) m
  part-build f a m n h =
      part_is a m (f 0) (build f n) (build (λ i. f (a + i)) m) (rw build-length h) (build-length (λ i. f (a + i)) m)
      (λ u b. build-at f n (a + u) (f 0) (omega arith) ∙ sym (build-at (λ i. f (a + i)) m u (f 0) b))

  -- items that lie row after row, v a row
  pub laid-at : (f : ℕ → ℕ → A) (v n t c : ℕ) (z : A) → t < n → c < v → get_or (build (λ p. f (p % v) (p / v)) (n * v)) (t * v + c) z ≡ f c t
  laid-at f v n t c z h l =
      let m : (t * v + c) % v ≡ c = mul-add-mod_self_right t v c ∙ mod-eq_of_lt l in
      let d : (t * v + c) / v ≡ t = mul-add-div_right (omega arith) t c ∙ ap (λ (q : ℕ). t + q) (div-eq_of_lt l) ∙ add-zero t in
      build-at (λ p. f (p % v) (p / v)) (n * v) (t * v + c) z (row_in v t n c h l) ∙ rw (m, d)

-- lists that grow at their end keep what they have
module _ {A : Type 0} (L X : ℕ → List A) (next : (n : ℕ) → L (n + 1) ≡ L n ++ X n) where
  grown : (t d : ℕ) → (x : List A) × (L (t + d) ≡ L t ++ x)
  grown t zero = ([], rw (add-zero, append-nil))
  grown t (suc d) =
      let (x, q) = grown t d in
      let p : t + suc d ≡ t + d + 1 = omega arith in
      (x ++ X (t + d), rw (p, next, q, append_assoc))

  pub grown-at : (t n i : ℕ) (z : A) → t ≤ n → i < length (L t) → get_or (L n) i z ≡ get_or (L t) i z
  grown-at t n i z h l =
      let (x, q) = grown t (n - t) in
      let p : n ≡ t + (n - t) = omega arith in
      ap (λ (m : ℕ). get_or (L m) i z) p ∙ ap (λ (y : List A). get_or y i z) q ∙ get_or-append (L t) x z i l

-- one number more
pub total_built : (f : ℕ → ℕ) (n : ℕ) → total (build f (n + 1)) ≡ total (build f n) + f n
unfolding build total
total_built f n = rw add-one (total-append (build f n) (f n ∷ []) ∙ (let z : total (build f n) + (f n + 0) ≡ total (build f n) + f n = omega arith in z))

-- what g makes of the elements
pub map-build : {A B : Type 0} (g : A → B) (f : ℕ → A) (n : ℕ) → map g (build f n) ≡ build (λ i. g (f i)) n
unfolding build
map-build g f zero = refl
map-build {B = B} g f (suc n) = map-append g (build f n) (f n ∷ []) ∙ ap (λ (l : List B). l ++ (g (f n) ∷ [])) (map-build g f n)

-- a fold along two lists, one behind the other
pub fold_append : {A B : Type 0} (f : A → B → A) (a : A) (xs ys : List B) → fold_from f a (xs ++ ys) ≡ fold_from f (fold_from f a xs) ys
unfolding fold_from
fold_append f a [] ys = refl
fold_append f a (x ∷ xs) ys = fold_append f (f a x) xs ys
