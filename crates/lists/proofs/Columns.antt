-- Laws of sums of numbers by a rule, and of how many of states' items at their chosen frames are so.
use mathlib.Core.Path.{◌≡◌, refl, sym, ap, ◌∙◌}
use mathlib.Core.Bool.{Bool, true, false, cond}
use mathlib.Core.List.{List, [], ◌∷◌, map, map-append}
use Prim.Native.Nat.{ℕ, zero, suc, ◌+◌, ◌*◌, ◌≤◌}
use native.Mathlib.Nat.{add-zero, add-suc, mul-zero, mul-suc, suc-mul, mul-add}
use native.Mathlib.Omega.{arith}
use lib.ListN.{length}
use Rattle.lists.specs.Totals.{total}
use Rattle.lists.specs.Build.{build, rows}
use Rattle.lists.specs.Flags.{flag}
use Rattle.lists.specs.Frames.{expand, select, count}
use Rattle.lists.proofs.Fills.{build-length}
use Rattle.lists.proofs.Builds.{build-first, build-same, map-build}
use Rattle.lists.proofs.Sums.{total-append}
use Rattle.lists.proofs.Counts.{count-first, count-append}
use Rattle.lists.proofs.Chosen.{select-map}
use Rattle.lists.proofs.Expansions.{map-expand}
use Rattle.lists.proofs.Shares.{share, share-next}

-- ---- sums

-- f 0 + f 1 + .. + f (n - 1)
unfoldable sum : (ℕ → ℕ) → ℕ → ℕ
sum f zero = 0
sum f (suc n) = sum f n + f n

-- it is the total of their list
sum-total : (f : ℕ → ℕ) (n : ℕ) → total (build f n) ≡ sum f n
unfolding total build sum
sum-total f zero = refl
sum-total f (suc n) = omega (arith, total-append (build f n) (f n ∷ []), sum-total f n)

-- equal numbers have one sum
sum_same : (f g : ℕ → ℕ) (n : ℕ) → ((i : ℕ) → f i ≡ g i) → sum f n ≡ sum g n
unfolding sum
sum_same f g zero h = refl
sum_same f g (suc n) h = omega (arith, sum_same f g n h, h n)

-- the sum of two numbers each is the sum of both sums
sum-plus : (f g : ℕ → ℕ) (n : ℕ) → sum (λ i. f i + g i) n ≡ sum f n + sum g n
unfolding sum
sum-plus f g zero = refl
sum-plus f g (suc n) = omega (arith, sum-plus f g n)

-- the sum of the first m numbers, and of n behind them
sum-behind : (f : ℕ → ℕ) (m n : ℕ) → sum f (m + n) ≡ sum f m + sum (λ i. f (m + i)) n
unfolding sum
sum-behind f m zero = rw (add-zero m, add-zero (sum f m))
sum-behind f m (suc n) = rw (add-suc m n) (omega (arith, sum-behind f m n))

-- n rows of w numbers, added up column by column
sum_columns : (f : ℕ → ℕ) (w n : ℕ) → sum (λ c. sum (λ i. f (w * i + c)) n) w ≡ sum f (w * n)
unfolding sum
sum_columns f w zero = rw mul-zero (omega (arith, sum-plus (λ c. 0) (λ c. 0) w))
sum_columns f w (suc n) = rw mul-suc (omega (arith, sum-plus (λ c. sum (λ i. f (w * i + c)) n) (λ c. f (w * n + c)) w, sum_columns f w n, sum-behind f (w * n) w))

-- two totals of numbers that are at most b together
pub totals_most : (f g : ℕ → ℕ) (b n : ℕ) → ((i : ℕ) → f i + g i ≤ b) → total (build f n) + total (build g n) ≤ n * b
unfolding total build
totals_most f g b zero h = omega arith
totals_most f g b (suc n) h = omega (arith, total-append (build f n) (f n ∷ []), total-append (build g n) (g n ∷ []), h n, totals_most f g b n h, suc-mul n b)

-- ---- shares of sums: of states' numbers, each by a rule, at their chosen frames

-- the first state's part, and the others'
share-build-first : (d : ℕ) (ds : List ℕ) (b : Bool) (bs : List Bool) (f : ℕ → ℕ) → length bs ≡ length ds
    → share (d ∷ ds) (b ∷ bs) (build f (suc (length ds))) ≡ cond b (d * f 0) 0 + share ds bs (build (λ s. f (suc s)) (length ds))
share-build-first d ds b bs f e =
    let rest = build (λ s. f (suc s)) (length ds) in
    rw (build-first f (length ds)) (share-next (d ∷ ds) (b ∷ bs) (f 0 ∷ rest) 0 (omega arith) (omega arith) (omega (arith, build-length (λ s. f (suc s)) (length ds))))

-- a state's part of a sum of two numbers is the sum of the parts
cond-plus : (b : Bool) (d x y : ℕ) → cond b (d * (x + y)) 0 ≡ cond b (d * x) 0 + cond b (d * y) 0
cond-plus true d x y = mul-add d x y
cond-plus false d x y = refl

-- and so is that of all states
share-plus : (ds : List ℕ) (bs : List Bool) (f g : ℕ → ℕ) → length bs ≡ length ds
    → share ds bs (build (λ s. f s + g s) (length ds)) ≡ share ds bs (build f (length ds)) + share ds bs (build g (length ds))
unfolding expand select total
share-plus [] bs f g e = refl
share-plus (d ∷ ds) [] f g e = absurd (omega arith)
share-plus (d ∷ ds) (b ∷ bs) f g e =
    let k : length bs ≡ length ds = omega arith in
    omega
    (arith, share-build-first d ds b bs (λ s. f s + g s) k, share-build-first d ds b bs f k, share-build-first d ds b bs g k, cond-plus b d (f 0) (g 0), share-plus ds bs (λ s. f (suc s)) (λ s. g (suc s)) k)

-- and of n numbers each
share-sum : (ds : List ℕ) (bs : List Bool) (f : ℕ → ℕ → ℕ) (n : ℕ) → length bs ≡ length ds
    → share ds bs (build (λ s. sum (f s) n) (length ds)) ≡ sum (λ i. share ds bs (build (λ s. f s i) (length ds))) n
unfolding sum
share-sum ds bs f zero e = omega (arith, share-plus ds bs (λ s. 0) (λ s. 0) e)
share-sum ds bs f (suc n) e = omega (arith, share-plus ds bs (λ s. sum (f s) n) (λ s. f s n) e, share-sum ds bs f n e)

-- ---- how many items by a rule are so

module _ {A : Type 0} (h : A → Bool) where
  -- 1 where an item is so, and else 0
  abbrev flagged : A → ℕ
  flagged x = flag (h x)

  -- how many are so is the total of these
  count-total : (xs : List A) → count (map h xs) ≡ total (map flagged xs)
  unfolding total count
  count-total [] = refl
  count-total (x ∷ xs) = omega (arith, count-first (h x) (map h xs), count-total xs)

  -- of a list by a rule
  count-build : (f : ℕ → A) (n : ℕ) → count (map h (build f n)) ≡ sum (λ i. flagged (f i)) n
  count-build f n = count-total (build f n) ∙ ap total (map-build flagged f n) ∙ sum-total (λ i. flagged (f i)) n

  -- of n lists, one after the other
  count-rows : (r : ℕ → List A) (n : ℕ) → count (map h (rows r n)) ≡ sum (λ i. count (map h (r i))) n
  unfolding rows count sum
  count-rows r zero = refl
  count-rows r (suc n) = ap count (map-append h (rows r n) (r n)) ∙ omega (arith, count-append (map h (rows r n)) (map h (r n)), count-rows r n)

  module _ (ds : List ℕ) (bs : List Bool) where
    -- states' items, one each, at their chosen frames
    abbrev chosen : (ℕ → A) → List A
    chosen f = select (expand ds bs) (expand ds (build f (length ds)))

    -- of these
    count-chosen : (f : ℕ → A) → count (map h (chosen f)) ≡ share ds bs (build (λ s. flagged (f s)) (length ds))
    count-chosen f =
        count-total (chosen f)
        ∙ ap total (select-map flagged (expand ds bs) (expand ds (build f (length ds))) ∙ ap (select (expand ds bs)) (map-expand flagged ds (build f (length ds)) ∙ ap (expand ds) (map-build flagged f (length ds))))

    -- a state has n rows of w items: by column and row as many are so as by states
    pub count_columns : (f : ℕ → ℕ → A) (w n : ℕ) → length bs ≡ length ds
        → total (build (λ c. count (map h (rows (λ i. chosen (λ s. f s (w * i + c))) n))) w) ≡ share ds bs (build (λ s. count (map h (build (f s) (w * n)))) (length ds))
    count_columns f w n long =
        let y : ℕ → ℕ → ℕ = λ s j. flagged (f s j) in
        sum-total (λ c. count (map h (rows (λ i. chosen (λ s. f s (w * i + c))) n))) w
        ∙ sum_same _ _ w (λ c. count-rows (λ i. chosen (λ s. f s (w * i + c))) n ∙ sum_same _ _ n (λ i. count-chosen (λ s. f s (w * i + c))) ∙ sym (share-sum ds bs (λ s i. y s (w * i + c)) n long))
        ∙ sym (share-sum ds bs (λ s c. sum (λ i. y s (w * i + c)) n) w long)
        ∙ ap (share ds bs) (build-same _ _ (length ds) (λ s l. sum_columns (y s) w n ∙ sym (count-build (f s) (w * n))))
