-- Lists by a rule, folds over lists, and steps in order.
use Rattle.std.specs.Prelude.{List, [], ◌∷◌, ◌++◌, ℕ, zero, suc}

module _ {A : Type 0} where
  -- f 0, f 1, .. f (n - 1)
  unfoldable pub build : (ℕ → A) → ℕ → List A
  build f zero = []
  build f (suc n) = build f n ++ (f n ∷ [])

  -- f along a list from the left, starting with a
  unfoldable pub fold_from : {B : Type 0} → (A → B → A) → A → List B → A
  fold_from f a [] = a
  fold_from f a (x ∷ xs) = fold_from f (f a x) xs

  -- r 0, r 1, .. r (n - 1), one after the other
  unfoldable pub rows : (ℕ → List A) → ℕ → List A
  rows r zero = []
  rows r (suc t) = rows r t ++ r t

  -- g 0, g 1, .. g (n - 1) done to y one after the other
  unfoldable pub over : (ℕ → A → A) → ℕ → A → A
  over g zero y = y
  over g (suc k) y = g k (over g k y)
