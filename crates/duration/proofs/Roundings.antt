-- The definitions and promises of `specs/` over any rounding, and that with `rounded_of` they are those.
use mathlib.Core.Path.{◌≡◌, refl}
use mathlib.Core.Bool.{cond}
use mathlib.Core.List.{List, [], ◌∷◌, ◌++◌}
use Prim.Native.Nat.{ℕ, ◌+◌, max}
use lib.Dec.{ltb, leb, eqb}
use lib.Ieee.{Float, binary64, add, sub, mul, div, eq}
use Rattle.lists.specs.Ends.{counted}
use Rattle.lists.specs.declared.Refusal.{Refusal}
use Rattle.std.proofs.Common.{Result}
use Rattle.duration.specs.declared.align.End.{End}
use Rattle.duration.specs.declared.align.End.TheVariants.{At, Open}
use Rattle.lists.specs.Sizes.{most_frames}
use Rattle.lists.specs.Build.{build}
use Rattle.lists.specs.Totals.{total}
use Rattle.lists.specs.Refusals.{or_else}
use Rattle.floats.specs.Rounding.{rounded_of}
use Rattle.floats.specs.Numbers.{nought, one, number}
use Rattle.duration.specs.declared.Aligned.{Aligned}
use Rattle.duration.specs.Estimate.{estimates, naturals}
use Rattle.steps.specs.Steps.{States, size, state_at, least, Outcome, unchanged, settle}
use Rattle.duration.specs.Fit.{rho_for, start_of, at_shortest, fit_to, refusal_to}
use Rattle.duration.specs.Speed.{target_at, fit_at, refusal_at}
use Rattle.duration.specs.Align.{Group, groups, states_in, target_of, fit_to_end, fit_of, fit_along, refusal_to_end, refusal_of, refusal_along}
use Rattle.duration.specs.Promise.{aligned, early_refusal, early_of_labels, Says}

module _ (rounding : Float → ℕ) where
  unfoldable pub estimates_by : Float → States → List ℕ
  estimates_by rho ss = build (λ i. max (state_at ss i).shortest (rounding (add binary64 (state_at ss i).mean (mul binary64 rho (state_at ss i).vari)))) (size ss)

  unfoldable pub start_by : States → ℕ → List ℕ
  start_by ss t = estimates_by (rho_for ss t) ss

  unfoldable pub fit_to_by : States → ℕ → Outcome
  fit_to_by ss t = cond (at_shortest ss t) (unchanged ss.shortest) (settle most_frames (rho_for ss t) ss t (start_by ss t))

  unfoldable pub refusal_to_by : States → ℕ → ℕ
  refusal_to_by ss t =
      cond (eqb (size ss) 0) 0
      (cond (ltb most_frames t) 7
      (cond (leb t (least ss)) 0
      (cond (ltb most_frames (total (start_by ss t))) 8 0)))

  unfoldable pub naturals_by : States → List ℕ
  naturals_by ss = estimates_by nought ss

  unfoldable pub target_at_by : States → Float → ℕ
  target_at_by ss speed = rounding (div binary64 (number (total (naturals_by ss))) speed)

  unfoldable pub fit_at_by : States → Float → Outcome
  fit_at_by ss speed = cond (eq speed one) (unchanged (naturals_by ss)) (fit_to_by ss (target_at_by ss speed))

  unfoldable pub refusal_at_by : States → Float → ℕ
  refusal_at_by ss speed = cond (ltb most_frames (total (naturals_by ss))) 8 (cond (eq speed one) 0 (refusal_to_by ss (target_at_by ss speed)))

  abbrev pub target_of_by : Float → ℕ → ℕ
  target_of_by end frames = rounding (sub binary64 end (number frames))

  abbrev pub fit_to_end_by : States → ℕ → End → Outcome
  fit_to_end_by ss frames (At x) = fit_to_by ss (target_of_by x frames)
  fit_to_end_by ss frames Open = unchanged (naturals_by ss)

  abbrev pub fit_of_by : States → Group → ℕ → Outcome
  fit_of_by ss g frames = fit_to_end_by (states_in g ss) frames g.end

  unfoldable pub fit_along_by : States → List Group → ℕ → Outcome
  fit_along_by ss [] frames = unchanged []
  fit_along_by ss (g ∷ gs) frames =
      let o = fit_of_by ss g frames in
      let later = fit_along_by ss gs (frames + total o.durations) in
      record { durations = o.durations ++ later.durations; changes = o.changes + later.changes }

  abbrev pub refusal_to_end_by : States → ℕ → End → ℕ
  refusal_to_end_by ss frames (At x) = refusal_to_by ss (target_of_by x frames)
  refusal_to_end_by ss frames Open = cond (ltb most_frames (total (naturals_by ss))) 8 0

  unfoldable pub refusal_of_by : States → Group → ℕ → ℕ
  refusal_of_by ss g frames =
      or_else (refusal_to_end_by (states_in g ss) frames g.end)
      (cond (ltb most_frames (frames + total (fit_of_by ss g frames).durations)) 8 0)

  unfoldable pub refusal_along_by : States → List Group → ℕ → ℕ
  refusal_along_by ss [] frames = 0
  refusal_along_by ss (g ∷ gs) frames = or_else (refusal_of_by ss g frames) (refusal_along_by ss gs (frames + total (fit_of_by ss g frames).durations))

  abbrev pub FitSaysBy : States → Float → List ℕ → List ℕ → Result ℕ Refusal → List ℕ → List ℕ → Type 0
  FitSaysBy ss len out work r =
      let o = fit_to_by ss (rounding len) in
      Says (or_else (early_refusal ss out work) (refusal_to_by ss (rounding len))) (o.changes ∷ []) o.durations (size ss) out work (counted r)

  abbrev pub SpeedSaysBy : States → Float → List ℕ → List ℕ → Result ℕ Refusal → List ℕ → List ℕ → Type 0
  SpeedSaysBy ss speed out work r =
      let o = fit_at_by ss speed in
      Says (or_else (early_refusal ss out work) (refusal_at_by ss speed)) (o.changes ∷ []) o.durations (size ss) out work (counted r)

  abbrev pub AlignSaysBy : States → ℕ → List Float → List ℕ → List ℕ → Result Aligned Refusal → List ℕ → List ℕ → Type 0
  AlignSaysBy ss nstate ends out work r =
      let gs = groups nstate 0 0 ends in
      let o = fit_along_by ss gs 0 in
      Says (or_else (early_of_labels nstate ends ss out work) (refusal_along_by ss gs 0)) (size ss ∷ o.changes ∷ []) o.durations (size ss) out work (aligned r)

-- ---- with `rounded_of` they are those of `specs/`

estimates_restated : (rho : Float) (ss : States) → estimates_by rounded_of rho ss ≡ estimates rho ss
unfolding estimates_by estimates
estimates_restated rho ss = refl

pub fit_restated : (ss : States) (t : ℕ) → (refusal_to_by rounded_of ss t ≡ refusal_to ss t) × (fit_to_by rounded_of ss t ≡ fit_to ss t)
unfolding refusal_to_by refusal_to fit_to_by fit_to start_by start_of
fit_restated ss t = let e = estimates_restated (rho_for ss t) ss in (rw e, rw e)

pub speed_restated : (ss : States) (speed : Float) → (refusal_at_by rounded_of ss speed ≡ refusal_at ss speed) × (fit_at_by rounded_of ss speed ≡ fit_at ss speed)
unfolding refusal_at_by refusal_at fit_at_by fit_at target_at_by target_at naturals_by naturals
speed_restated ss speed =
    let e = estimates_restated nought ss in
    let f = fit_restated ss (target_at ss speed) in
    (rw (e, f.0), rw (e, f.1))

end_restated : (ss : States) (frames : ℕ) (end : End) → (refusal_to_end_by rounded_of ss frames end ≡ refusal_to_end ss frames end) × (fit_to_end_by rounded_of ss frames end ≡ fit_to_end ss frames end)
unfolding naturals_by naturals
end_restated ss frames (At x) = fit_restated ss (target_of x frames)
end_restated ss frames Open = let e = estimates_restated nought ss in (rw e, rw e)

pub along_restated : (ss : States) (gs : List Group) (frames : ℕ) → (refusal_along_by rounded_of ss gs frames ≡ refusal_along ss gs frames) × (fit_along_by rounded_of ss gs frames ≡ fit_along ss gs frames)
unfolding refusal_along_by refusal_along fit_along_by fit_along refusal_of_by refusal_of
along_restated ss [] frames = (refl, refl)
along_restated ss (g ∷ gs) frames =
    let f = end_restated (states_in g ss) frames g.end in
    let later = along_restated ss gs (frames + total (fit_of ss g frames).durations) in
    (rw (f.0, f.1, later.0), rw (f.1, later.1))
