-- What the call promises.
use Rattle.std.specs.Prelude.{◌≡◌, Bool, cond, ◌&&◌, List, Option, None, Some, ℕ, ltb, leb, eqb, length, Float}
use Rattle.lists.specs.Sizes.{most_states, most_frames}
use Rattle.lists.specs.Totals.{total}
use Rattle.steps.specs.Steps.{States, size, least, settle}

-- 1 to 4,096 states, of which v have a variance, l a shortest and d a duration
abbrev pub fit_together : ℕ → ℕ → ℕ → ℕ → Bool
fit_together n v l d = ltb 0 n && leb n most_states && eqb v n && eqb l n && eqb d n

-- a target above the sum of the shortest, and within 65,536 frames
abbrev pub in_reach : ℕ → ℕ → Bool
in_reach sum t = ltb sum t && leb t most_frames

-- whether there is anything to settle
abbrev pub opens : States → List ℕ → ℕ → Bool
opens ss ds t = fit_together (size ss) (length ss.varis) (length ss.shortest) (length ds) && in_reach (least ss) t

-- RULES, Refusals: a start above 65,536 frames is too long
abbrev pub too_long : List ℕ → Bool
too_long ds = ltb most_frames (total ds)

-- `settle`: the steps that the rule takes, and where it ends; with a start that is too long it has none, and where the lists don't fit no step is taken. The rule starts
-- and ends within 65,536 frames, so it takes no more steps.
pub record SettleSays (rho : Float) (t : ℕ) (ss : States) (ds : List ℕ) (r : Option ℕ) (ds' : List ℕ) : Type 0 where
  pub answer : r ≡ cond (opens ss ds t) (cond (too_long ds) None (Some (settle most_frames rho ss t ds).changes)) (Some 0)
  pub durations : ds' ≡ cond (opens ss ds t) (cond (too_long ds) ds (settle most_frames rho ss t ds).durations) ds
