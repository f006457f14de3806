-- A speed that is not refused gives one duration a state, and not too many frames.
use mathlib.Core.Path.{◌≡◌, refl}
use mathlib.Core.Bool.{true, false, cond}
use Prim.Native.Nat.{ℕ, ◌≤◌, ◌<◌}
use native.Mathlib.Omega.{arith}
use lib.Dec.{leb, ltb, eqb}
use lib.ListN.{length}
use lib.Ieee.{Float, eq}
use borrow.Author.Tests.{eqb-false, leb-false, ltb-false}
use Rattle.lists.specs.Sizes.{most_frames}
use Rattle.lists.specs.Totals.{total}
use Rattle.lists.proofs.Flags.{neither}
use Rattle.floats.specs.Numbers.{nought, one}
use Rattle.steps.specs.Steps.{States, size, least, Outcome, unchanged}
use Rattle.duration.specs.Fit.{start_of, at_shortest, fit_to, refusal_to}
use Rattle.duration.specs.Estimate.{naturals}
use Rattle.duration.specs.Speed.{target_at, fit_at, refusal_at}
use Rattle.duration.proofs.Refusals.{cond-none}
use Rattle.duration.proofs.Estimates.{length-estimates}
use Rattle.duration.proofs.Fairness.{fair-fit}

pub record Bounded (n : ℕ) (o : Outcome) : Type 0 where
  pub count : length o.durations ≡ n
  pub few : total o.durations ≤ most_frames

module _ (ss : States) (agree : length ss.shortest ≡ size ss) (low : least ss ≤ most_frames) where
  shortest : Bounded (size ss) (unchanged ss.shortest)
  shortest = record { count = agree; few = low }

  -- the target is above the sum of the shortest
  module _ (t : ℕ) (e : refusal_to ss t ≡ 0) where
    fit-above : at_shortest ss t ≡ false → Bounded (size ss) (fit_to ss t)
    unfolding refusal_to
    fit-above q =
        let p = neither (eqb (size ss) 0) (leb t (least ss)) q in
        let z : size ss ≡ 0 → ⊥ = eqb-false (size ss) 0 p.0 in
        let some : 0 < size ss = omega arith in
        let f = fair-fit ss t some agree (leb-false t (least ss) p.1) e in
        let a : ◌≡◌ {A = ℕ} (cond (ltb most_frames t) 7 (cond (leb t (least ss)) 0 (cond (ltb most_frames (total (start_of ss t))) 8 0))) 0 = rw p.0 at e in
        record { count = f.count; few = omega (arith, f.sum, ltb-false most_frames t (cond-none (ltb most_frames t) 6 _ a).0) }

    fit-bounded : Bounded (size ss) (fit_to ss t)
    unfolding fit_to
    fit-bounded =
        (elim (at_shortest ss t) as (λ s. at_shortest ss t ≡ s → Bounded (size ss) (fit_to ss t)) [
          | true ↦ λ q. rw q shortest
          | false ↦ λ q. fit-above q
        ])
        refl

  pub speed-bounded : (speed : Float) → refusal_at ss speed ≡ 0 → Bounded (size ss) (fit_at ss speed)
  unfolding refusal_at fit_at naturals
  speed-bounded speed e =
      let p = cond-none (ltb most_frames (total (naturals ss))) 7 _ e in
      (elim (eq speed one) as (λ s. eq speed one ≡ s → Bounded (size ss) (fit_at ss speed)) [
        | true ↦ λ q. rw q (record { count = length-estimates nought ss; few = ltb-false most_frames (total (naturals ss)) p.0 })
        | false ↦ λ q. rw q (fit-bounded (target_at ss speed) (rw q at p.1))
      ])
      refl
