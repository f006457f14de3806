-- Worked refusals, computed from the definitions.
use Rattle.std.specs.Prelude.{◌≡◌, refl, List, [], ◌∷◌, ℕ}
use Rattle.lists.specs.Totals.{total}
use Rattle.spool.specs.Refusal.{place_refusal, durations_refusal, trajectory_refusal, excerpt_refusal}

-- no v; a v too many, whatever the component; the last component; one past it
places_refused : (place_refusal 0 0 ≡ 3) × (place_refusal 65 65 ≡ 3) × (place_refusal 39 40 ≡ 0) × (place_refusal 40 40 ≡ 10)
unfolding place_refusal
places_refused = (refl, refl, refl, refl)

-- three states of 2, 0 and 1 frames
durations : List ℕ
durations = 2 ∷ 0 ∷ 1 ∷ []

-- the last state; no such state; a number too few, also where there is no such state
excerpts_refused : (excerpt_refusal 6 durations 2 2 ≡ 0) × (excerpt_refusal 6 durations 2 3 ≡ 10) × (excerpt_refusal 5 durations 2 3 ≡ 4)
unfolding durations excerpt_refusal trajectory_refusal total
excerpts_refused = (refl, refl, refl)

-- 65,537 frames, with and without their numbers; and without a v
frames_refused : (excerpt_refusal 65537 (65537 ∷ []) 1 0 ≡ 5) × (excerpt_refusal 0 (65537 ∷ []) 1 0 ≡ 4) × (excerpt_refusal 0 (65537 ∷ []) 0 0 ≡ 3)
unfolding excerpt_refusal trajectory_refusal total
frames_refused = (refl, refl, refl)

-- no state, 65,536 frames, and one more
durations_refused : (durations_refusal [] ≡ 0) × (durations_refusal (65535 ∷ 1 ∷ []) ≡ 0) × (durations_refusal (65535 ∷ 2 ∷ []) ≡ 5)
unfolding durations_refusal total
durations_refused = (refl, refl, refl)
