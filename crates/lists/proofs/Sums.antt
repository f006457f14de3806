-- Laws of totals and of folds.
use mathlib.Core.Path.{◌≡◌, sym, ap, ◌∙◌}
use mathlib.Core.List.{List, [], ◌∷◌, ◌++◌}
use Prim.Native.Nat.{ℕ, zero, suc, ◌+◌, ◌*◌, ◌^◌, ◌<◌, ◌≤◌, zero-le}
use native.Mathlib.Nat.{not-suc-le-zero, zero-mul, suc-mul}
use native.Mathlib.Numerals.{add-one}
use native.Mathlib.Omega.{arith}
use lib.ListN.{length, take, drop, get_or, set, replicate, take-append-drop, drop_of_length-le}
use lib.Seq.{drop-cons, take-suc, take-add, take_all}
use Rattle.lists.specs.Totals.{total}
use Rattle.lists.specs.Build.{fold_from}

pub total-append : (xs ys : List ℕ) → total (xs ++ ys) ≡ total xs + total ys
unfolding total
total-append [] ys = omega arith
total-append (x ∷ xs) ys = omega (arith, total-append xs ys)

-- one number more
pub total-more : (xs : List ℕ) (i : ℕ) → i < length xs → total (take (i + 1) xs) ≡ total (take i xs) + get_or xs i 0
unfolding total
total-more xs i h = rw (add-one, take-suc xs i 0 h) (omega (arith, total-append (take i xs) (get_or xs i 0 ∷ [])))

-- from a place on: one number less
pub total-next : (xs : List ℕ) (i : ℕ) → i < length xs → total (drop i xs) ≡ get_or xs i 0 + total (drop (i + 1) xs)
unfolding total
total-next xs i h = rw (drop-cons xs i 0 h, add-one)

pub total-none : (xs : List ℕ) (i : ℕ) → length xs ≤ i → total (drop i xs) ≡ 0
unfolding total
total-none xs i h = rw (drop_of_length-le xs h)

-- a part more
pub total-part : (xs : List ℕ) (a n : ℕ) → total (take (a + n) xs) ≡ total (take a xs) + total (take n (drop a xs))
total-part xs a n = ap total (take-add a n xs) ∙ total-append (take a xs) (take n (drop a xs))

-- a front has no larger total
pub total-front : (xs : List ℕ) (a : ℕ) → total (take a xs) ≤ total xs
total-front xs a = omega (arith, total-append (take a xs) (drop a xs), ap total (take-append-drop a xs))

-- no number is larger than the total
pub get_or-le-total : (xs : List ℕ) (i : ℕ) → get_or xs i 0 ≤ total xs
unfolding total
get_or-le-total [] i = zero-le
get_or-le-total (x ∷ xs) zero = omega arith
get_or-le-total (x ∷ xs) (suc i) = omega (arith, get_or-le-total xs i)

-- one number becomes another
pub total-set : (xs : List ℕ) (i y : ℕ) → i < length xs → total (set xs i y) + get_or xs i 0 ≡ total xs + y
unfolding total
total-set [] i y h = absurd (not-suc-le-zero h)
total-set (x ∷ xs) zero y h = omega arith
total-set (x ∷ xs) (suc i) y h = omega (arith, total-set xs i y (omega arith))

-- numbers of at most b have a total of at most b each
pub total-under : (b : ℕ) (xs : List ℕ) → ((i : ℕ) → get_or xs i 0 ≤ b) → total xs ≤ length xs * b
unfolding total
total-under b [] h = omega arith
total-under b (x ∷ xs) h = omega (arith, h 0, total-under b xs (λ i. h (suc i)))

-- one number, over and over
pub total-same : (n x : ℕ) → total (replicate n x) ≡ n * x
unfolding total
total-same zero x = sym (zero-mul x)
total-same (suc n) x = omega (arith, total-same n x, suc-mul n x)

-- the total of a list that is not endlessly long
pub total-whole : (xs : List ℕ) → length xs ≤ 4294967296 → total (take (2 ^ 32) xs) ≡ total xs
total-whole xs h = ap total (take_all (2 ^ 32) xs h)

module _ {A B : Type 0} (f : A → B → A) where
  -- one more turn of a fold
  pub fold_more : (a : A) (xs : List B) (i : ℕ) (z : B) → i < length xs → fold_from f (f a (get_or xs i z)) (drop (i + 1) xs) ≡ fold_from f a (drop i xs)
  unfolding fold_from
  fold_more a xs i z h = rw (add-one, drop-cons xs i z h)

  pub fold_done : (a : A) (xs : List B) (i : ℕ) → length xs ≤ i → fold_from f a (drop i xs) ≡ a
  unfolding fold_from
  fold_done a xs i h = rw (drop_of_length-le xs h)
