-- Where one state alone is above its shortest, it gives all the frames.
use mathlib.Core.Path.{◌≡◌, ap, ◌∙◌}
use mathlib.Core.Bool.{false}
use mathlib.Core.List.{List}
use mathlib.Core.Logic.{⊎_elim}
use Prim.Native.Nat.{ℕ, zero, suc, ◌+◌, ◌-◌, ◌≤◌, ◌<◌, zero-le}
use native.Mathlib.Omega.{arith}
use Rattle.std.proofs.Common.{Option, None, Some}
use lib.ListN.{length, get_or, set, length-set}
use lib.Seq.{get_or-set_same, get_or-set_other, set-get_or, set-set}
use lib.Ieee.{Float}
use Rattle.lists.specs.Sizes.{most_frames}
use Rattle.lists.specs.Totals.{total, gap}
use Rattle.steps.specs.Steps.{States, size, least, keys, least_of, step, Settles, Outcome, settle}
use Rattle.steps.specs.Steps.Settles.{there, above}
use Rattle.steps.specs.Inner.Asked.{Ready, Aim, Lone}
use Rattle.steps.proofs.Keys.{place-long}
use Rattle.steps.proofs.Nodes.{same}
use Rattle.steps.proofs.Stepping.{total-down}
use Rattle.steps.proofs.Settling.{settles_one, settle_settles}

-- ---- the loop that looks for it has passed i states: none is longer, or one is

abbrev pub Passed : List ℕ → List ℕ → ℕ → Option ℕ → Type 0
Passed ls ds i None = (j : ℕ) → j < i → get_or ds j 0 ≤ get_or ls j 0
Passed ls ds i (Some p) = (p < i) × ((j : ℕ) → j < i → (j ≡ p → ⊥) → get_or ds j 0 ≤ get_or ls j 0)

-- ---- its steps

module _ (rho : Float) (ss : States) (t : ℕ) (agree : length ss.shortest ≡ size ss) (room : least ss ≤ t) (p : ℕ) where
  alone-least : (ds : List ℕ) → length ds ≡ size ss → Lone ss.shortest ds p → t < total ds → least_of (keys false rho ss ds) ≡ p
  alone-least ds q l h =
      let g : get_or ss.shortest (least_of (keys false rho ss ds)) 0 < get_or ds (least_of (keys false rho ss ds)) 0 = place-long rho ss ds agree q (omega arith) in
      ⊎_elim (λ e. e) (λ (ne : least_of (keys false rho ss ds) ≡ p → ⊥). absurd (omega (arith, l _ ne))) (same (least_of (keys false rho ss ds)) p)

  alone_settles : (k : ℕ) (ds : List ℕ) → 0 < size ss → length ds ≡ size ss → p < length ds → Lone ss.shortest ds p → total ds ≡ t + k → (k ≤ get_or ds p 0) × Settles rho ss t ds (set ds p (get_or ds p 0 - k)) k
  unfolding step
  alone_settles zero ds z q i l e =
      let d : get_or ds p 0 - 0 ≡ get_or ds p 0 = omega arith in
      (zero-le, rw (d, set-get_or ds p 0) (there (let h : total ds ≡ t = omega arith in h)))
  alone_settles (suc k) ds z q i l e =
      let h : t < total ds = omega arith in
      let at : least_of (keys false rho ss ds) ≡ p = alone-least ds q l h in
      let g : get_or ss.shortest (least_of (keys false rho ss ds)) 0 < get_or ds (least_of (keys false rho ss ds)) 0 = place-long rho ss ds agree q (omega arith) in
      let d : get_or ss.shortest p 0 < get_or ds p 0 = rw at at g in
      let x : ℕ = get_or ds p 0 - 1 in
      let s : step false rho ss ds ≡ set ds p x = rw at in
      let m : total (step false rho ss ds) + 1 ≡ total ds = total-down rho ss z ds q agree (omega arith) in
      let n : total (set ds p x) + 1 ≡ total ds = rw (← s) m in
      let y : get_or (set ds p x) p 0 ≡ x = get_or-set_same ds p x 0 i in
      let r = alone_settles k (set ds p x) z (length-set ds p x ∙ q) (rw (length-set ds p x) i) (λ j ne. rw (get_or-set_other ds p j x 0 ne) (l j ne)) (omega arith) in
      let c : get_or (set ds p x) p 0 - k ≡ get_or ds p 0 - suc k = omega arith in
      (omega (arith, r.0), above {es = set ds p (get_or ds p 0 - suc k)} {k = k} h (rw s (rw (c, set-set ds p x (get_or ds p 0 - suc k)) at r.1)))

-- all at once
module _ (rho : Float) (ss : States) (t sum : ℕ) (ds : List ℕ) (r : Ready ss ds) (a : Aim ss ds sum t) (h : t < sum) (p : ℕ) (i : p < length ds) (l : Lone ss.shortest ds p) where
  at_once : (gap sum t ≤ get_or ds p 0) × Settles rho ss t ds (set ds p (get_or ds p 0 - gap sum t)) (gap sum t)
  at_once = alone_settles rho ss t r.shortest (omega (arith, a.above)) p (gap sum t) ds r.some r.work i l (omega (arith, a.known))

  pub alone_has : gap sum t ≤ get_or ds p 0
  alone_has = at_once.0

  pub alone-settled : settle most_frames rho ss t ds ≡ record { durations = set ds p (get_or ds p 0 - gap sum t); changes = gap sum t }
  alone-settled =
      let o : Outcome = settle most_frames rho ss t ds in
      let e = settles_one rho ss t (settle_settles rho ss t r.some r.shortest (omega (arith, a.above)) most_frames ds r.work (omega (arith, r.small))) at_once.1 in
      ap (λ (es : List ℕ). record { durations = es; changes = o.changes }) e.0 ∙ ap (λ (k : ℕ). record { durations = set ds p (get_or ds p 0 - gap sum t); changes = k }) e.1
