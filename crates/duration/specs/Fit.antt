-- The fit of states to a length.
use Rattle.std.specs.Prelude.{Bool, ◌||◌, cond, List, ℕ, leb, ltb, eqb, Float}
use Rattle.std.specs.Float.{binary64}
use Rattle.std.specs.Float.Ieee.{sub, div}
use Rattle.lists.specs.Sizes.{most_frames}
use Rattle.lists.specs.Totals.{total}
use Rattle.model.specs.Pair.{sum_of}
use Rattle.floats.specs.Numbers.{number}
use Rattle.duration.specs.Estimate.{estimates}
use Rattle.steps.specs.Steps.{States, size, least, Outcome, unchanged, settle}

-- RULES, Durations: rho is the target less the sum of the means, over the sum of the variances; each sum runs from zero, left to right
abbrev pub rho_of : List Float → List Float → ℕ → Float
rho_of ms vs t = div binary64 (sub binary64 (number t) (sum_of ms vs).0) (sum_of ms vs).1

-- that of states
abbrev pub rho_for : States → ℕ → Float
rho_for ss t = rho_of ss.means ss.varis t

-- RULES, Durations: a fit starts from the estimate with rho
unfoldable pub start_of : States → ℕ → List ℕ
start_of ss t = estimates (rho_for ss t) ss

-- RULES, Durations: with no state, or a target not above the sum of the shortest, each state gets its shortest and nothing is changed
abbrev pub at_shortest : States → ℕ → Bool
at_shortest ss t = eqb (size ss) 0 || leb t (least ss)

-- The fit to a target: the step rule from the start. It starts and ends within 65,536 frames, so no fit takes more steps.
unfoldable pub fit_to : States → ℕ → Outcome
fit_to ss t = cond (at_shortest ss t) (unchanged ss.shortest) (settle most_frames (rho_for ss t) ss t (start_of ss t))

-- RULES, Refusals: where there are states, 7 for a target above 65,536 frames, then 8 for a start above them
unfoldable pub refusal_to : States → ℕ → ℕ
refusal_to ss t =
    cond (eqb (size ss) 0) 0
    (cond (ltb most_frames t) 7
    (cond (leb t (least ss)) 0
    (cond (ltb most_frames (total (start_of ss t))) 8 0)))
