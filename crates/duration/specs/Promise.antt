-- What the three calls promise.
use Rattle.lists.specs.Ends.{answered, counted}
use Rattle.lists.specs.declared.Refusal.{Refusal}
use Rattle.std.specs.Prelude.{◌≡◌, Bool, not, ◌||◌, cond, List, [], ◌∷◌, ◌++◌, ℕ, ◌*◌, ltb, eqb, length, drop, replicate, Float, Result}
use Rattle.floats.specs.Rounding.{rounded_of}
use Rattle.duration.specs.declared.Aligned.{Aligned}
use Rattle.steps.specs.Steps.{States, size}
use Rattle.duration.specs.Shortest.{refusal_of_shortest}
use Rattle.duration.specs.Fit.{fit_to, refusal_to}
use Rattle.lists.specs.Sizes.{most_states, most_label_states}
use Rattle.lists.specs.Refusals.{or_else}
use Rattle.lists.specs.Answers.{Answer, answer_of, written}
use Rattle.duration.specs.Speed.{fit_at, refusal_at}
use Rattle.duration.specs.Align.{groups, fit_along, refusal_along}
use Rattle.duration.specs.Drift.{NoDrift}

-- of an alignment: how many durations were written, one a state, and the unit changes
abbrev pub aligned : Result Aligned Refusal → Answer
aligned = answered (λ a. a.states ∷ a.changes ∷ [])

-- RULES, Refusals: an accepted call, 7 and 8 zero the call's part of the work space; any other refusal leaves it as it was
abbrev pub clears : ℕ → Bool
clears k = eqb k 0 || (eqb k 7 || eqb k 8)

-- the first n numbers of the work space cleared, or all as it was
unfoldable pub work_of : ℕ → ℕ → List ℕ → List ℕ
work_of k n work = cond (clears k) (replicate n 0 ++ drop n work) work

-- RULES, Refusals: 3, 4 and 6, of n states, v variances and l shortest durations, with room for o and w numbers
unfoldable pub refusal_of_lists : ℕ → ℕ → ℕ → ℕ → ℕ → ℕ
refusal_of_lists n v l o w = cond (ltb most_states n) 3 (cond (not (eqb v n)) 4 (cond (not (eqb l n)) 4 (cond (ltb o n) 6 (cond (ltb w n) 6 0))))

-- the same of m labels with k states each
unfoldable pub refusal_of_labels : ℕ → ℕ → ℕ → ℕ → ℕ → ℕ → ℕ → ℕ
refusal_of_labels k m n v l o w = cond (ltb most_states n) 3 (cond (ltb k 1) 3 (cond (ltb most_label_states k) 3 (cond (not (eqb (m * k) n)) 4 (refusal_of_lists n v l o w))))

-- RULES, Refusals: what is refused before any work, by the states and the room that they have, or by labels too: those, and then 15
abbrev pub early_refusal : States → List ℕ → List ℕ → ℕ
early_refusal ss out work = or_else (refusal_of_lists (size ss) (length ss.varis) (length ss.shortest) (length out) (length work)) (refusal_of_shortest ss.shortest)

abbrev pub early_of_labels : ℕ → List Float → States → List ℕ → List ℕ → ℕ
early_of_labels k ends ss out work = or_else (refusal_of_labels k (length ends) (size ss) (length ss.varis) (length ss.shortest) (length out) (length work)) (refusal_of_shortest ss.shortest)

-- A call of n states that answers a, and these durations where that accepts: its answer, and the lists at exit.
pub record Answers (a : Answer) (new : List ℕ) (n : ℕ) (out work : List ℕ) (r : Answer) (out' work' : List ℕ) : Type 0 where
  pub answer : r ≡ a
  pub output : out' ≡ written a.number new out
  pub workspace : work' ≡ work_of a.number n work

-- one with the refusal number k, 0 for none, and these values where it is accepted
abbrev pub Says : ℕ → List ℕ → List ℕ → ℕ → List ℕ → List ℕ → Answer → List ℕ → List ℕ → Type 0
Says k values = Answers (answer_of k values)

-- `estimate_duration_with_frame_length`
abbrev pub FitSays : States → Float → List ℕ → List ℕ → Result ℕ Refusal → List ℕ → List ℕ → Type 0
FitSays ss len out work r =
    let o = fit_to ss (rounded_of len) in
    Says (or_else (early_refusal ss out work) (refusal_to ss (rounded_of len))) (o.changes ∷ []) o.durations (size ss) out work (counted r)

-- `create`
abbrev pub SpeedSays : States → Float → List ℕ → List ℕ → Result ℕ Refusal → List ℕ → List ℕ → Type 0
SpeedSays ss speed out work r =
    let o = fit_at ss speed in
    Says (or_else (early_refusal ss out work) (refusal_at ss speed)) (o.changes ∷ []) o.durations (size ss) out work (counted r)

-- an alignment: one duration a state
abbrev pub AlignSays : States → ℕ → List Float → List ℕ → List ℕ → Result Aligned Refusal → List ℕ → List ℕ → Type 0
AlignSays ss nstate ends out work r =
    let gs = groups nstate 0 0 ends in
    let o = fit_along ss gs 0 in
    Says (or_else (early_of_labels nstate ends ss out work) (refusal_along ss gs 0)) (size ss ∷ o.changes ∷ []) o.durations (size ss) out work (aligned r)

-- `create_with_alignment`: and no call that is accepted drifts, since every end is an f64, off which the frames so far are taken with no error
-- where it is not below them
pub record AlignOnTime (ss : States) (nstate : ℕ) (ends : List Float) (out work : List ℕ) (r : Result Aligned Refusal) (out' work' : List ℕ) : Type 0 where
  pub says : AlignSays ss nstate ends out work r out' work'
  pub on_time : (aligned r).number ≡ 0 → NoDrift nstate ends ss.shortest out'
