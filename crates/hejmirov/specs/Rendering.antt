-- An alignment, and a trajectory over its durations.
use Rattle.std.specs.Prelude.{◌≡◌, true, false, cond, List, ℕ, ◌*◌, ◌≤◌, length, Float}
use Rattle.lists.specs.Sizes.{most_frames, outside}
use Rattle.lists.specs.Totals.{total}
use Rattle.lists.specs.Refusals.{or_else}
use Rattle.model.specs.Windows.{widths_fit, all_finite}
use Rattle.mlpg_adjust.specs.Trajectory.{state_size}
use Rattle.mlpg_adjust.specs.Promise.{lengths_of, gv_disagrees, disagree, short}
use Rattle.mlpg_adjust.specs.declared.Stream.{Stream}

-- the stream and the lists that a trajectory is asked with, beside the durations
module _ (s : Stream) (widths : List ℕ) (coefs records gv : List Float) (switches : List ℕ) (out work : List Float) (marks : List ℕ) where
  -- RULES, Refusals: what may still refuse a trajectory of n states over so many frames whose durations are in order: no 5, 3 for v alone, and 4 where
  -- another list doesn't agree with those states
  unfoldable pub refusal_beside : ℕ → ℕ → ℕ
  refusal_beside n frames =
      let l = lengths_of records gv switches out work marks in
      or_else (cond (widths_fit widths) 0 1)
      (or_else (cond (all_finite coefs) 0 2)
      (or_else (cond (outside s.v) 3 0)
      (or_else (cond (disagree s widths (length coefs) n l) 4 0)
      (cond (short s.v frames l) 6 0))))

  -- nothing beside the durations refuses it: one record a state, and the rest as RULES, Refusals, asks
  pub record Ready (n frames : ℕ) : Type 0 where
    pub windows : widths_fit widths ≡ true
    pub finite : all_finite coefs ≡ true
    pub components : outside s.v ≡ false
    pub coefficients : length coefs ≡ total widths
    pub states : length records ≡ n * state_size s widths
    pub variance : gv_disagrees s n (lengths_of records gv switches out work marks) ≡ false
    pub room : short s.v frames (lengths_of records gv switches out work marks) ≡ false

  -- of n states' durations, and the number that a trajectory over them answers: nothing of it is their fault, and it is accepted where all else is ready
  pub record Blameless (n : ℕ) (ds : List ℕ) (number : ℕ) : Type 0 where
    pub count : length ds ≡ n
    pub frames : total ds ≤ most_frames
    pub answers : number ≡ refusal_beside n (total ds)
    pub accepted : Ready n (total ds) → number ≡ 0
