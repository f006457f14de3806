-- Laws of the switches, and of sums over the switched values.
use mathlib.Core.Path.{◌≡◌, refl, sym, ◌∙◌}
use mathlib.Core.Bool.{Bool, true, false, cond, not}
use mathlib.Core.List.{List, [], ◌∷◌, map}
use mathlib.Core.Logic.{⊎_elim}
use Prim.Native.Nat.{ℕ, zero, suc, ◌+◌, ◌<◌, ◌≤◌}
use native.Mathlib.Numerals.{add-one}
use native.Mathlib.Omega.{arith}
use borrow.Author.Tests.{lt-ltb, le-ltb, ne_eqb}
use lib.Dec.{eqb, ltb}
use lib.ListN.{length, get_or, drop, drop_of_length-le, length-map}
use lib.Seq.{drop-cons}
use lib.Ieee.{Float, nan, binary64, add}
use Rattle.std.specs.Prelude.{Some, None}
use Rattle.std.specs.Option.{unwrap_or}
use Rattle.std.specs.List.{count_by, position, position_or_len}
use Rattle.std.proofs.lemmas.List.Recursion.{is_count_by}
use Rattle.lists.specs.Build.{fold_from}
use Rattle.lists.specs.Frames.{select, count}
use Rattle.lists.specs.Flags.{is_on}
use Rattle.lists.proofs.Numbers.{le_or_lt}
use Rattle.lists.proofs.Counts.{count_most}
use Rattle.region.specs.Rows.{elem}
use Rattle.gv.specs.Gv.{sum_from_first}
use Rattle.gv.specs.Inner.Turns.{first_on, Sampled}
use Rattle.gv.specs.declared.MlpgGlobalVariance.{MlpgGlobalVariance}

-- a number that is not 0 is on
not_zero : (x : ℕ) → eqb (suc x) 0 ≡ false
not_zero x = ne_eqb (suc x) 0 (λ e. omega arith)

pub on_is : (x : ℕ) → not (eqb x 0) ≡ is_on x
on_is zero = refl
on_is (suc x) = rw (not_zero x)

-- how many are on
count_step : (x : ℕ) (on : List ℕ) → count (map is_on (x ∷ on)) ≡ cond (not (eqb x 0)) (1 + count (map is_on on)) (count (map is_on on))
unfolding count
count_step zero on = refl
count_step (suc x) on = rw (not_zero x) (omega arith)

pub count_is : (on : List ℕ) → count_by (λ x. not (eqb x 0)) on ≡ count (map is_on on)
unfolding count
count_is on = sym (is_count_by (λ l. count (map is_on l)) (λ x. not (eqb x 0)) refl count_step on)

-- the first that is, or the end
first_is : (on : List ℕ) → position_or_len (λ x. not (eqb x 0)) on ≡ first_on (map is_on on)
unfolding first_on
first_is [] = refl
first_is (zero ∷ on) = omega (arith, first_is on)
first_is (suc x ∷ on) = rw (not_zero x)

first_most : (bs : List Bool) → first_on bs ≤ length bs
unfolding first_on
first_most [] = omega arith
first_most (true ∷ bs) = omega arith
first_most (false ∷ bs) = omega (arith, first_most bs)

or_end : (k n : ℕ) → k ≤ n → unwrap_or (cond (ltb k n) (Some k) None) n ≡ k
or_end k n h = ⊎_elim (λ (g : n ≤ k). let e : n ≡ k = omega (arith, g, h) in rw (le-ltb k n g) e) (λ (g : k < n). rw (lt-ltb k n g)) (le_or_lt n k)

pub first_or_end : (on : List ℕ) → unwrap_or (position (λ x. not (eqb x 0)) on) (length on) ≡ first_on (map is_on on)
first_or_end on = or_end (position_or_len (λ x. not (eqb x 0)) on) (length on) (omega (arith, first_is on, first_most (map is_on on), length-map on is_on)) ∙ first_is on

first-inside : (bs : List Bool) → 0 < count bs → first_on bs < length bs
unfolding count first_on
first-inside [] h = absurd (omega arith)
first-inside (true ∷ bs) h = omega arith
first-inside (false ∷ bs) h = omega (arith, first-inside bs h)

module _ (on : List ℕ) where
  abbrev bools : List Bool
  bools = map is_on on

  pub bools-length : length bools ≡ length on
  bools-length = length-map on is_on

  next : (t : ℕ) → t < length on → drop t bools ≡ get_or bools t false ∷ drop (t + 1) bools
  next t h = drop-cons bools t false (rw bools-length h) ∙ rw add-one

  none : (t : ℕ) → length on ≤ t → drop t bools ≡ []
  none t h = let q : length bools ≤ t = rw bools-length h in drop_of_length-le bools q

  -- ---- what is known where some frame is switched

  pub sampled : (g : MlpgGlobalVariance) (values : ℕ) → Sampled g bools values → (length on ≡ values) × (g.first ≡ first_on bools) × (g.first < length on) × (g.switched ≤ g.length)
  sampled g values k =
      let c = k.counted in (
        sym bools-length ∙ c.frames ∙ sym k.all,
        c.begin,
        omega (arith, c.begin, first-inside bools (omega (arith, c.number, k.some)), bools-length),
        omega (arith, c.number, count_most bools, c.frames),
      )

-- ---- a sum of f over the switched values: so far, and with those from t on it is the whole

-- the switched values are the first of them and those after it
select-first : (bs : List Bool) (par : List Float) → length bs ≡ length par → first_on bs < length bs
    → select bs par ≡ elem par (first_on bs) ∷ select (drop (suc (first_on bs)) bs) (drop (suc (first_on bs)) par)
unfolding first_on select
select-first [] par e h = absurd (omega arith)
select-first (true ∷ bs) [] e h = absurd (omega arith)
select-first (false ∷ bs) [] e h = absurd (omega arith)
select-first (true ∷ bs) (x ∷ xs) e h = refl
select-first (false ∷ bs) (x ∷ xs) e h = select-first bs xs (omega arith) (omega arith)

abbrev pub sum_from : (Float → Float) → List ℕ → List Float → ℕ → Float → Float
sum_from f on par t sum = fold_from (λ a y. add binary64 a (f y)) sum (select (drop t (map is_on on)) (drop t par))

pub record Summing (f : Float → Float) (on : List ℕ) (par : List Float) (t : ℕ) (sum : Float) : Type 0 where
  pub within : t ≤ length par
  pub rest : sum_from f on par t sum ≡ sum_from_first f (select (map is_on on) par)

module _ (f : Float → Float) (on : List ℕ) (par : List Float) (e : length on ≡ length par) where
  pub summing_first : (k : ℕ) (sum : Float) → k ≡ first_on (map is_on on) → k < length on → sum ≡ f (elem par k) → Summing f on par (k + 1) sum
  unfolding sum_from_first
  summing_first k sum o h q =
      let b : first_on (map is_on on) < length (map is_on on) = omega (arith, bools-length on) in
      record { within = omega arith; rest = rw (q, select-first (map is_on on) par (bools-length on ∙ e) b, ← o, add-one) }

  module _ (t : ℕ) (sum : Float) (k : Summing f on par t sum) where
    pub summing_on : get_or (map is_on on) t false ≡ true → t < length par → (y : Float) → y ≡ f (elem par t) → Summing f on par (t + 1) (add binary64 sum y)
    unfolding select fold_from
    summing_on o h y q =
        let one : sum_from f on par (t + 1) (add binary64 sum (f (elem par t))) ≡ sum_from f on par t sum = rw (next on t (omega arith), o, drop-cons par t nan h, add-one) in
        record { within = omega arith; rest = rw q (one ∙ k.rest) }

    pub summing_off : get_or (map is_on on) t false ≡ false → t < length par → Summing f on par (t + 1) sum
    unfolding select fold_from
    summing_off o h =
        let same : sum_from f on par (t + 1) sum ≡ sum_from f on par t sum = rw (next on t (omega arith), o, drop-cons par t nan h, add-one) in
        record { within = omega arith; rest = same ∙ k.rest }

    pub summing_done : length par ≤ t → sum ≡ sum_from_first f (select (map is_on on) par)
    unfolding select fold_from
    summing_done h = rw (none on t (omega arith)) at k.rest
