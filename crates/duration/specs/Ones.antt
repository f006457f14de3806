-- The rules as they were without shortest durations, under the names that they have: an estimate is at least 1, a target not above the number of states
-- gives each one frame, and only a state above 1 frame gives one. No code is held to it: `proofs/Ones.antt` has that with ones it is what is promised.
use Rattle.lists.specs.Ends.{counted}
use Rattle.lists.specs.declared.Refusal.{Refusal}
use Rattle.std.specs.Prelude.{◌≡◌, Bool, true, false, not, ◌||◌, cond, List, [], ◌∷◌, ◌++◌, ℕ, zero, suc, ◌+◌, ◌-◌, ◌*◌, ◌<◌, ltb, leb, eqb, length, get_or, set, replicate, Float, Result}
use Rattle.std.specs.Float.{nan, binary64}
use Rattle.std.specs.Float.Ieee.{add, mul, div, eq, le}
use Rattle.lists.specs.Sizes.{most_frames, most_states, most_label_states}
use Rattle.lists.specs.Totals.{total}
use Rattle.lists.specs.Refusals.{or_else}
use Rattle.floats.specs.Rounding.{rounded_of}
use Rattle.floats.specs.Numbers.{nought, one, number}
use Rattle.steps.specs.Steps.{cost_of, moved, Key, least_of, Outcome, unchanged, once_more}
use Rattle.steps.specs.Steps.Key.{Fixed, Cost}
use Rattle.duration.specs.declared.Aligned.{Aligned}
use Rattle.duration.specs.declared.align.End.{End}
use Rattle.duration.specs.declared.align.End.TheVariants.{At, Open}
use Rattle.duration.specs.Fit.{rho_of}
use Rattle.duration.specs.Align.{Group, groups, within, target_of}
use Rattle.duration.specs.Drift.{OnTime, frames_before, group_states, total_at}
use Rattle.duration.specs.Promise.{aligned, Says}

-- ---- a step

-- a state of one frame has no step down
unfoldable pub key_of : Bool → Float → Float → Float → ℕ → Key
key_of true rho m v d = Cost (cost_of rho m v (d + 1))
key_of false rho m v d = cond (ltb 1 d) (Cost (cost_of rho m v (d - 1))) Fixed

-- one key a state
unfoldable pub keys : Bool → Float → List Float → List Float → List ℕ → List Key
keys up rho [] vs ds = []
keys up rho (m ∷ ms) [] ds = []
keys up rho (m ∷ ms) (v ∷ vs) [] = []
keys up rho (m ∷ ms) (v ∷ vs) (d ∷ ds) = key_of up rho m v d ∷ keys up rho ms vs ds

-- a step of the state whose key is the first least
unfoldable pub step : Bool → Float → List Float → List Float → List ℕ → List ℕ
step up rho ms vs ds = let i = least_of (keys up rho ms vs ds) in set ds i (moved up (get_or ds i 0))

-- while the total is not t, a step
unfoldable pub settle : ℕ → Float → List Float → List Float → ℕ → List ℕ → Outcome
settle zero rho ms vs t ds = unchanged ds
settle (suc most) rho ms vs t ds =
    elim (eqb (total ds) t) [
      | true ↦ unchanged ds
      | false ↦ once_more (settle most rho ms vs t (step (ltb (total ds) t) rho ms vs ds))
    ]

-- ---- a fit

-- at least 1, which `rounded_of` sees to
abbrev pub estimate_of : Float → Float → Float → ℕ
estimate_of rho m v = rounded_of (add binary64 m (mul binary64 rho v))

-- one estimate a state
unfoldable pub estimates : Float → List Float → List Float → List ℕ
estimates rho [] vs = []
estimates rho (m ∷ ms) [] = []
estimates rho (m ∷ ms) (v ∷ vs) = estimate_of rho m v ∷ estimates rho ms vs

-- the estimate with rho 0
unfoldable pub naturals : List Float → List Float → List ℕ
naturals ms vs = estimates nought ms vs

-- the estimate with rho
unfoldable pub start_of : List Float → List Float → ℕ → List ℕ
start_of ms vs t = estimates (rho_of ms vs t) ms vs

-- no state, or a target not above their number
abbrev pub at_shortest : ℕ → ℕ → Bool
at_shortest n t = eqb n 0 || leb t n

-- one frame for each state, or the steps from the start
unfoldable pub fit_to : List Float → List Float → ℕ → Outcome
fit_to ms vs t = cond (at_shortest (length ms) t) (unchanged (replicate (length ms) 1)) (settle most_frames (rho_of ms vs t) ms vs t (start_of ms vs t))

-- 7 for the target, then 8 for the start
unfoldable pub refusal_to : List Float → List Float → ℕ → ℕ
refusal_to ms vs t =
    cond (eqb (length ms) 0) 0
    (cond (ltb most_frames t) 7
    (cond (leb t (length ms)) 0
    (cond (ltb most_frames (total (start_of ms vs t))) 8 0)))

-- ---- a speed

-- the frames of the natural durations over the speed
unfoldable pub target_at : List Float → List Float → Float → ℕ
target_at ms vs speed = rounded_of (div binary64 (number (total (naturals ms vs))) speed)

-- those at speed 1, and else the fit to the target
unfoldable pub fit_at : List Float → List Float → Float → Outcome
fit_at ms vs speed = cond (eq speed one) (unchanged (naturals ms vs)) (fit_to ms vs (target_at ms vs speed))

-- 8 for the first estimate, then the refusals of the fit
unfoldable pub refusal_at : List Float → List Float → Float → ℕ
refusal_at ms vs speed = cond (ltb most_frames (total (naturals ms vs))) 8 (cond (eq speed one) 0 (refusal_to ms vs (target_at ms vs speed)))

-- ---- an alignment

-- a fit to the end's target, or the natural durations
abbrev pub fit_to_end : List Float → List Float → ℕ → End → Outcome
fit_to_end ms vs frames (At x) = fit_to ms vs (target_of x frames)
fit_to_end ms vs frames Open = unchanged (naturals ms vs)

-- a group's
abbrev pub fit_of : List Float → List Float → Group → ℕ → Outcome
fit_of ms vs g frames = fit_to_end (within g ms) (within g vs) frames g.end

-- group after group
unfoldable pub fit_along : List Float → List Float → List Group → ℕ → Outcome
fit_along ms vs [] frames = unchanged []
fit_along ms vs (g ∷ gs) frames =
    let o = fit_of ms vs g frames in
    let later = fit_along ms vs gs (frames + total o.durations) in
    record { durations = o.durations ++ later.durations; changes = o.changes + later.changes }

-- the fit's refusals, and 8 for natural durations that are too long
abbrev pub refusal_to_end : List Float → List Float → ℕ → End → ℕ
refusal_to_end ms vs frames (At x) = refusal_to ms vs (target_of x frames)
refusal_to_end ms vs frames Open = cond (ltb most_frames (total (naturals ms vs))) 8 0

-- a group's, then 8 for the total with the groups before it
unfoldable pub refusal_of : List Float → List Float → Group → ℕ → ℕ
refusal_of ms vs g frames =
    or_else (refusal_to_end (within g ms) (within g vs) frames g.end)
    (cond (ltb most_frames (frames + total (fit_of ms vs g frames).durations)) 8 0)

-- of the first group that is refused
unfoldable pub refusal_along : List Float → List Float → List Group → ℕ → ℕ
refusal_along ms vs [] frames = 0
refusal_along ms vs (g ∷ gs) frames = or_else (refusal_of ms vs g frames) (refusal_along ms vs gs (frames + total (fit_of ms vs g frames).durations))

-- ---- the promises

-- 3, 4 and 6, of n states and v variances, with room for o and w numbers
unfoldable pub refusal_of_lists : ℕ → ℕ → ℕ → ℕ → ℕ
refusal_of_lists n v o w = cond (ltb most_states n) 3 (cond (not (eqb v n)) 4 (cond (ltb o n) 6 (cond (ltb w n) 6 0)))

-- the same of m labels with k states each
unfoldable pub refusal_of_labels : ℕ → ℕ → ℕ → ℕ → ℕ → ℕ → ℕ
refusal_of_labels k m n v o w = cond (ltb most_states n) 3 (cond (ltb k 1) 3 (cond (ltb most_label_states k) 3 (cond (not (eqb (m * k) n)) 4 (refusal_of_lists n v o w))))

-- `estimate_duration_with_frame_length`
abbrev pub FitSays : List Float → List Float → Float → List ℕ → List ℕ → Result ℕ Refusal → List ℕ → List ℕ → Type 0
FitSays ms vs len out work r =
    let o = fit_to ms vs (rounded_of len) in
    Says (or_else (refusal_of_lists (length ms) (length vs) (length out) (length work)) (refusal_to ms vs (rounded_of len))) (o.changes ∷ []) o.durations (length ms) out work (counted r)

-- `create`
abbrev pub SpeedSays : List Float → List Float → Float → List ℕ → List ℕ → Result ℕ Refusal → List ℕ → List ℕ → Type 0
SpeedSays ms vs speed out work r =
    let o = fit_at ms vs speed in
    Says (or_else (refusal_of_lists (length ms) (length vs) (length out) (length work)) (refusal_at ms vs speed)) (o.changes ∷ []) o.durations (length ms) out work (counted r)

-- an alignment
abbrev pub AlignSays : List Float → List Float → ℕ → List Float → List ℕ → List ℕ → Result Aligned Refusal → List ℕ → List ℕ → Type 0
AlignSays ms vs nstate ends out work r =
    let gs = groups nstate 0 0 ends in
    let o = fit_along ms vs gs 0 in
    Says (or_else (refusal_of_labels nstate (length ends) (length ms) (length vs) (length out) (length work)) (refusal_along ms vs gs 0)) (length ms ∷ o.changes ∷ []) o.durations (length ms) out work (aligned r)

-- no drift: a group has room where its target is above the number of its states, and else has one frame a state
abbrev pub NoDrift : ℕ → List Float → List ℕ → Type 0
NoDrift k ends ds = (i : ℕ) → i < length ends → le nought (get_or ends i nan) ≡ true → OnTime (get_or ends i nan) (frames_before k ends ds i) (group_states k ends i) (total_at k ds i)

-- `create_with_alignment`
pub record AlignOnTime (ms vs : List Float) (nstate : ℕ) (ends : List Float) (out work : List ℕ) (r : Result Aligned Refusal) (out' work' : List ℕ) : Type 0 where
  pub says : AlignSays ms vs nstate ends out work r out' work'
  pub on_time : (aligned r).number ≡ 0 → NoDrift nstate ends out'
