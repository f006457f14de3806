-- The step rule as a 'while': it ends at one list after one number of steps, and the computation ends there.
use mathlib.Core.Path.{◌≡◌, refl, ap, ◌∙◌}
use mathlib.Core.Bool.{Bool, true, false}
use mathlib.Core.List.{List, [], ◌∷◌}
use Prim.Native.Nat.{ℕ, zero, suc, ◌+◌, ◌-◌, ◌≤◌, ◌<◌, zero-le}
use native.Mathlib.Nat.{le_refl, le_trans}
use native.Mathlib.Omega.{arith}
use lib.Dec.{ltb, eqb}
use lib.ListN.{length, get_or, set}
use lib.Ieee.{Float}
use borrow.Author.Tests.{ltb-true, ltb-false, eqb-true, eqb-false}
use Rattle.lists.specs.Totals.{total, gap}
use Rattle.steps.specs.Steps.{States, size, least, keys, least_of, step, Settles, Outcome, settle}
use Rattle.steps.specs.Steps.Settles.{there, below, above}
use Rattle.steps.proofs.Keys.{place-long}
use Rattle.steps.proofs.Stepping.{length-step, total-up, total-down, settle-there, settle-turn}

-- ---- state by state: nowhere longer

pub data Pointwise : List ℕ → List ℕ → Type 0 where
  nil : Pointwise [] []
  cons : {x y : ℕ} {xs ys : List ℕ} → x ≤ y → Pointwise xs ys → Pointwise (x ∷ xs) (y ∷ ys)

pub same : (xs : List ℕ) → Pointwise xs xs
same [] = nil
same (x ∷ xs) = cons (le_refl x) (same xs)

through : {xs ys zs : List ℕ} → Pointwise xs ys → Pointwise ys zs → Pointwise xs zs
through nil nil = nil
through (cons h p) (cons k q) = cons (le_trans h k) (through p q)

set_longer : (ds : List ℕ) (i : ℕ) → Pointwise ds (set ds i (get_or ds i 0 + 1))
set_longer [] i = nil
set_longer (d ∷ ds) zero = cons {x = d} {y = d + 1} (omega arith) (same ds)
set_longer (d ∷ ds) (suc i) = cons (le_refl d) (set_longer ds i)

set_shorter : (ds : List ℕ) (i : ℕ) → Pointwise (set ds i (get_or ds i 0 - 1)) ds
set_shorter [] i = nil
set_shorter (d ∷ ds) zero = cons {x = d - 1} {y = d} (omega arith) (same ds)
set_shorter (d ∷ ds) (suc i) = cons (le_refl d) (set_shorter ds i)

pub pointwise_at : {xs ys : List ℕ} → Pointwise xs ys → (i : ℕ) → get_or xs i 0 ≤ get_or ys i 0
pointwise_at nil i = zero-le
pointwise_at (cons h p) zero = h
pointwise_at (cons h p) (suc i) = pointwise_at p i

-- and place by place
pub pointwise_of : (xs ys : List ℕ) → length xs ≡ length ys → ((i : ℕ) → i < length xs → get_or xs i 0 ≤ get_or ys i 0) → Pointwise xs ys
pointwise_of [] [] e h = nil
pointwise_of [] (y ∷ ys) e h = absurd (omega arith)
pointwise_of (x ∷ xs) [] e h = absurd (omega arith)
pointwise_of (x ∷ xs) (y ∷ ys) e h = cons (h 0 (omega arith)) (pointwise_of xs ys (omega arith) (λ i l. h (suc i) (omega arith)))

pointwise_set : {xs ys : List ℕ} → Pointwise xs ys → (i y : ℕ) → get_or xs i 0 ≤ y → Pointwise xs (set ys i y)
pointwise_set nil i y h = nil
pointwise_set (cons g p) zero y h = cons h p
pointwise_set (cons g p) (suc i) y h = cons g (pointwise_set p i y h)

-- ---- the rule

module _ (rho : Float) (ss : States) (t : ℕ) where
  -- it ends in one way
  pub settles_one : {ds es fs : List ℕ} {j k : ℕ} → Settles rho ss t ds es j → Settles rho ss t ds fs k → (es ≡ fs) × (j ≡ k)
  settles_one (there p) (there q) = (refl, refl)
  settles_one (there p) (below h s) = absurd (omega arith)
  settles_one (there p) (above h s) = absurd (omega arith)
  settles_one (below h s) (there q) = absurd (omega arith)
  settles_one (below h s) (below g u) = let r = settles_one s u in (r.0, ap suc r.1)
  settles_one (below h s) (above g u) = absurd (omega arith)
  settles_one (above h s) (there q) = absurd (omega arith)
  settles_one (above h s) (below g u) = absurd (omega arith)
  settles_one (above h s) (above g u) = let r = settles_one s u in (r.0, ap suc r.1)

  -- it ends at the target
  pub settles_total : {ds es : List ℕ} {k : ℕ} → Settles rho ss t ds es k → total es ≡ t
  settles_total (there p) = p
  settles_total (below h s) = settles_total s
  settles_total (above h s) = settles_total s

  pub settles_length : {ds es : List ℕ} {k : ℕ} → Settles rho ss t ds es k → length es ≡ length ds
  settles_length (there p) = refl
  settles_length (below {ds = ds} h s) = settles_length s ∙ length-step rho ss true ds
  settles_length (above {ds = ds} h s) = settles_length s ∙ length-step rho ss false ds

  module _ (some : 0 < size ss) (agree : length ss.shortest ≡ size ss) (room : least ss ≤ t) where
    -- each step brings the total one nearer
    risen : (ds : List ℕ) → length ds ≡ size ss → total (step true rho ss ds) ≡ total ds + 1
    risen ds q = total-up rho ss some ds q

    fallen : (ds : List ℕ) → length ds ≡ size ss → t < total ds → total (step false rho ss ds) + 1 ≡ total ds
    fallen ds q h = total-down rho ss some ds q agree (omega arith)

    stepped : (up : Bool) (ds : List ℕ) → length ds ≡ size ss → length (step up rho ss ds) ≡ size ss
    stepped up ds q = length-step rho ss up ds ∙ q

    -- as many steps as the total is away from the target
    pub settles_gap : {ds es : List ℕ} {k : ℕ} → length ds ≡ size ss → Settles rho ss t ds es k → k ≡ gap (total ds) t
    settles_gap q (there p) = omega arith
    settles_gap q (below {ds = ds} h s) = omega (arith, risen ds q, settles_gap (stepped true ds q) s)
    settles_gap q (above {ds = ds} h s) = omega (arith, fallen ds q h, settles_gap (stepped false ds q) s)

    -- none is shortened on the way up, and none lengthened on the way down
    pub settles_up : {ds es : List ℕ} {k : ℕ} → length ds ≡ size ss → total ds ≤ t → Settles rho ss t ds es k → Pointwise ds es
    unfolding step
    settles_up q l (there {ds = ds} p) = same ds
    settles_up q l (below {ds = ds} h s) = through (set_longer ds (least_of (keys true rho ss ds))) (settles_up (stepped true ds q) (omega (arith, risen ds q)) s)
    settles_up q l (above h s) = absurd (omega arith)

    pub settles_down : {ds es : List ℕ} {k : ℕ} → length ds ≡ size ss → t ≤ total ds → Settles rho ss t ds es k → Pointwise es ds
    unfolding step
    settles_down q l (there {ds = ds} p) = same ds
    settles_down q l (below h s) = absurd (omega arith)
    settles_down q l (above {ds = ds} h s) = through (settles_down (stepped false ds q) (omega (arith, fallen ds q h)) s) (set_shorter ds (least_of (keys false rho ss ds)))

    -- no state falls below its shortest
    pub settles_above : {ds es : List ℕ} {k : ℕ} → length ds ≡ size ss → Pointwise ss.shortest ds → Settles rho ss t ds es k → Pointwise ss.shortest es
    unfolding step
    settles_above q p (there e) = p
    settles_above q p (below {ds = ds} h s) =
        let i : ℕ = least_of (keys true rho ss ds) in
        settles_above (stepped true ds q) (pointwise_set p i _ (omega (arith, pointwise_at p i))) s
    settles_above q p (above {ds = ds} h s) =
        let i : ℕ = least_of (keys false rho ss ds) in
        let l : get_or ss.shortest i 0 < get_or ds i 0 = place-long rho ss ds agree q (omega arith) in
        settles_above (stepped false ds q) (pointwise_set p i _ (omega arith)) s

    -- the computation ends there, however many steps more it is given
    pub settle_settles : (most : ℕ) (ds : List ℕ) → length ds ≡ size ss → gap (total ds) t ≤ most → Settles rho ss t ds (settle most rho ss t ds).durations (settle most rho ss t ds).changes
    settle_settles zero ds q h = let e : total ds ≡ t = omega arith in rw (settle-there rho ss t 0 ds e) (there e)
    settle_settles (suc most) ds q h =
        (elim (eqb (total ds) t) as (λ s. eqb (total ds) t ≡ s → Settles rho ss t ds (settle (suc most) rho ss t ds).durations (settle (suc most) rho ss t ds).changes) [
          | true ↦ λ e. rw (settle-there rho ss t (suc most) ds (eqb-true (total ds) t e)) (there (eqb-true (total ds) t e))
          | false ↦ λ e.
              (elim (ltb (total ds) t) as (λ s. ltb (total ds) t ≡ s → Settles rho ss t ds (settle (suc most) rho ss t ds).durations (settle (suc most) rho ss t ds).changes) [
                | true ↦ λ w.
                    let l : total ds < t = ltb-true (total ds) t w in
                    rw (settle-turn rho ss t most ds true (eqb-false (total ds) t e) w) (below l (settle_settles most (step true rho ss ds) (stepped true ds q) (omega (arith, risen ds q))))
                | false ↦ λ w.
                    let k : t ≤ total ds = ltb-false (total ds) t w in
                    let d : total ds ≡ t → ⊥ = eqb-false (total ds) t e in
                    let l : t < total ds = omega arith in
                    rw (settle-turn rho ss t most ds false d w) (above l (settle_settles most (step false rho ss ds) (stepped false ds q) (omega (arith, fallen ds q l))))
              ])
              refl
        ])
        refl

    pub settle-enough : (j k : ℕ) (ds : List ℕ) → length ds ≡ size ss → gap (total ds) t ≤ j → gap (total ds) t ≤ k → settle j rho ss t ds ≡ settle k rho ss t ds
    settle-enough j k ds q h l =
        let o : Outcome = settle j rho ss t ds in
        let p : Outcome = settle k rho ss t ds in
        let r = settles_one (settle_settles j ds q h) (settle_settles k ds q l) in
        ap (λ (es : List ℕ). record { durations = es; changes = o.changes }) r.0 ∙ ap (λ (n : ℕ). record { durations = p.durations; changes = n }) r.1
