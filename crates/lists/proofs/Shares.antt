-- Laws of states' numbers, added up over the frames that are chosen: a state's frames are chosen together, so that its number counts once for each.
use mathlib.Core.Path.{◌≡◌, refl, sym, ap, ◌∙◌}
use mathlib.Core.Bool.{Bool, true, false, cond}
use mathlib.Core.List.{List, [], ◌∷◌, ◌++◌}
use Prim.Native.Nat.{ℕ, zero, suc, ◌+◌, ◌*◌, ◌<◌, ◌≤◌}
use native.Mathlib.Nat.{add-mul, mul-le-mul_left}
use native.Mathlib.Omega.{arith}
use lib.ListN.{length, drop, get_or, replicate, length-replicate, drop_of_length-le}
use Rattle.lists.specs.Totals.{total}
use Rattle.lists.specs.Build.{build}
use Rattle.lists.specs.Frames.{expand, select}
use Rattle.lists.proofs.Builds.{build-first}
use Rattle.lists.proofs.Chosen.{select-append}
use Rattle.lists.proofs.Expansions.{expand-next}
use Rattle.lists.proofs.Sums.{total-append}

-- the total of the numbers ys of states at their chosen frames
abbrev pub share : List ℕ → List Bool → List ℕ → ℕ
share ds bs ys = total (select (expand ds bs) (expand ds ys))

-- one state's: all of its frames or none
alike : (d : ℕ) (b : Bool) (y : ℕ) → total (select (replicate d b) (replicate d y)) ≡ cond b (d * y) 0
unfolding total select
alike zero true y = omega arith
alike zero false y = refl
alike (suc d) true y = omega (arith, alike d true y)
alike (suc d) false y = alike d false y

first-share : (d : ℕ) (b : Bool) (y : ℕ) (bs : List Bool) (ys : List ℕ) → total (select (replicate d b ++ bs) (replicate d y ++ ys)) ≡ cond b (d * y) 0 + total (select bs ys)
first-share d b y bs ys =
    ap total (select-append (replicate d b) bs (replicate d y) ys (length-replicate d y ∙ sym (length-replicate d b)))
    ∙ total-append (select (replicate d b) (replicate d y)) (select bs ys)
    ∙ ap (λ (n : ℕ). n + total (select bs ys)) (alike d b y)

-- a loop over states has come to state s
module _ (ds : List ℕ) (bs : List Bool) (ys : List ℕ) (s : ℕ) where
  pub share-next : s < length ds → length bs ≡ length ds → length ys ≡ length ds
      → share (drop s ds) (drop s bs) (drop s ys) ≡ cond (get_or bs s false) (get_or ds s 0 * get_or ys s 0) 0 + share (drop (s + 1) ds) (drop (s + 1) bs) (drop (s + 1) ys)
  share-next h e o =
      rw (expand-next ds bs s false h (omega arith), expand-next ds ys s 0 h (omega arith))
      (first-share (get_or ds s 0) (get_or bs s false) (get_or ys s 0) (expand (drop (s + 1) ds) (drop (s + 1) bs)) (expand (drop (s + 1) ds) (drop (s + 1) ys)))

  pub share-none : length ds ≤ s → share (drop s ds) (drop s bs) (drop s ys) ≡ 0
  unfolding expand select total
  share-none h = rw (drop_of_length-le ds h)

-- state by state: its number times its frames where these are chosen
pub share-total : (ds : List ℕ) (bs : List Bool) (ys : List ℕ) → length bs ≡ length ds → length ys ≡ length ds
    → share ds bs ys ≡ total (build (λ s. cond (get_or bs s false) (get_or ds s 0 * get_or ys s 0) 0) (length ds))
unfolding expand select total build
share-total [] bs ys e o = refl
share-total (d ∷ ds) [] ys e o = absurd (omega arith)
share-total (d ∷ ds) (b ∷ bs) [] e o = absurd (omega arith)
share-total (d ∷ ds) (b ∷ bs) (y ∷ ys) e o =
    first-share d b y (expand ds bs) (expand ds ys)
    ∙ ap (λ (n : ℕ). cond b (d * y) 0 + n) (share-total ds bs ys (omega arith) (omega arith))
    ∙ sym (ap total (build-first (λ s. cond (get_or (b ∷ bs) s false) (get_or (d ∷ ds) s 0 * get_or (y ∷ ys) s 0) 0) (length ds)))

-- numbers of at most b come to at most b a frame
taken : (d : ℕ) (c : Bool) (y b : ℕ) → y ≤ b → cond c (d * y) 0 ≤ d * b
taken d true y b h = mul-le-mul_left d h
taken d false y b h = omega arith

pub share-most : (b : ℕ) (ds : List ℕ) (bs : List Bool) (ys : List ℕ) → length bs ≡ length ds → length ys ≡ length ds → ((i : ℕ) → get_or ys i 0 ≤ b) → share ds bs ys ≤ total ds * b
unfolding expand select total
share-most b [] bs ys e o h = omega arith
share-most b (d ∷ ds) [] ys e o h = absurd (omega arith)
share-most b (d ∷ ds) (c ∷ bs) [] e o h = absurd (omega arith)
share-most b (d ∷ ds) (c ∷ bs) (y ∷ ys) e o h =
    rw (first-share d c y (expand ds bs) (expand ds ys), add-mul)
    (omega (arith, share-most b ds bs ys (omega arith) (omega arith) (λ i. h (suc i)), taken d c y b (h 0)))
