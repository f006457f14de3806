-- The refusals taken apart, test by test: for the proofs of src/ and of the laws, and not for the crates above.
use Rattle.std.specs.Prelude.{◌≡◌, refl, true, false, cond, List, ℕ, ◌<◌, ◌≤◌, ltb, length}
use Rattle.std.proofs.Common.{sym, ◌∙◌, ⊎_elim, arith, lt-ltb, le-ltb}
use Rattle.lists.specs.Totals.{total}
use Rattle.lists.proofs.Numbers.{le_or_lt}
use Rattle.lists.specs.Refusals.{or_else}
use Rattle.lists.proofs.Refusals.{or_first}
use Rattle.lists.specs.declared.Refusal.{Refusal}
use Rattle.lists.specs.Refusals.{number_of}
use Rattle.lists.proofs.Ends.{stops}
use Rattle.lists.specs.Sizes.{outside}
use Rattle.spool.specs.Refusal.{states_refusal, counts_refusal, frames_refusal, shape_refusal, durations_refusal, trajectory_refusal}

-- ---- the numbers of states, components and frames

pub few_none : (states : ℕ) → states ≤ 4096 → states_refusal states ≡ 0
few_none states h = rw (le-ltb 4096 states h)

pub none_few : (states : ℕ) → states_refusal states ≡ 0 → states ≤ 4096
none_few states e = ⊎_elim (λ (h : states ≤ 4096). h) (λ (h : 4096 < states). let p : states_refusal states ≡ 3 = rw (lt-ltb 4096 states h) in absurd (omega arith)) (le_or_lt states 4096)

pub none_short : (frames : ℕ) → frames_refusal frames ≡ 0 → frames ≤ 65536
none_short frames e = ⊎_elim (λ (h : frames ≤ 65536). h) (λ (h : 65536 < frames). let p : frames_refusal frames ≡ 5 = rw (lt-ltb 65536 frames h) in absurd (omega arith)) (le_or_lt frames 65536)

module _ (states v : ℕ) where
  pub counts_3 : outside v ≡ true → counts_refusal states v ≡ 3
  counts_3 w = (elim (ltb 4096 states) as (λ t. or_else (cond t 3 0) (cond (outside v) 3 0) ≡ 3) [ true ↦ refl | false ↦ rw w ])

  pub counts_states : outside v ≡ false → counts_refusal states v ≡ states_refusal states
  counts_states w = (elim (ltb 4096 states) as (λ t. or_else (cond t 3 0) (cond (outside v) 3 0) ≡ cond t 3 0) [ true ↦ refl | false ↦ rw w ])

  pub counts_none : counts_refusal states v ≡ 0 → (states ≤ 4096) × (outside v ≡ false)
  counts_none e =
      (elim (outside v) as (λ s. outside v ≡ s → (states ≤ 4096) × (outside v ≡ false)) [
        | true ↦ λ w. absurd (omega (arith, counts_3 w))
        | false ↦ λ w. (none_few states (sym (counts_states w) ∙ e), w)
      ]) refl

-- ---- the first of the numbers that is given

module _ (ds : List ℕ) where
  pub durations_stop : (e : Refusal) → number_of e ≡ states_refusal (length ds) → number_of e ≡ durations_refusal ds
  unfolding durations_refusal
  durations_stop e q = stops e (states_refusal (length ds)) _ q

  pub durations-first : (states_refusal (length ds) ≡ 0 → ⊥) → durations_refusal ds ≡ states_refusal (length ds)
  unfolding durations_refusal
  durations-first z = or_first (states_refusal (length ds)) _ z

  pub durations_then : states_refusal (length ds) ≡ 0 → durations_refusal ds ≡ frames_refusal (total ds)
  unfolding durations_refusal
  durations_then e = rw e

module _ (numbers : ℕ) (ds : List ℕ) (v : ℕ) where
  pub trajectory_stop : (e : Refusal) → number_of e ≡ counts_refusal (length ds) v → number_of e ≡ trajectory_refusal numbers ds v
  unfolding trajectory_refusal
  trajectory_stop e q = stops e (counts_refusal (length ds) v) _ q

  pub trajectory-first : (counts_refusal (length ds) v ≡ 0 → ⊥) → trajectory_refusal numbers ds v ≡ counts_refusal (length ds) v
  unfolding trajectory_refusal
  trajectory-first z = or_first (counts_refusal (length ds) v) _ z

  pub trajectory_then : counts_refusal (length ds) v ≡ 0 → trajectory_refusal numbers ds v ≡ shape_refusal numbers (total ds) v
  unfolding trajectory_refusal
  trajectory_then e = rw e
