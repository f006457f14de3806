-- RULES, Durations: the theorem of the fit, which is what a fit to a target above the sum of the shortest comes to.
use Rattle.lists.specs.declared.Refusal.{Refusal}
use Rattle.std.specs.Prelude.{◌≡◌, ◌⊎◌, List, [], ◌∷◌, ◌++◌, ℕ, ◌+◌, ◌≤◌, ◌<◌, length, get_or, drop, Result, Ok}
use Rattle.duration.specs.declared.align.End.{End}
use Rattle.duration.specs.declared.align.End.TheVariants.{At, Open}
use Rattle.lists.specs.Sizes.{most_frames, most_states}
use Rattle.lists.specs.Totals.{total, gap}
use Rattle.duration.specs.declared.Aligned.{Aligned}
use Rattle.steps.specs.Steps.{States, states, size, least, Outcome, unchanged, Settles}
use Rattle.duration.specs.Estimate.{naturals}
use Rattle.duration.specs.Fit.{rho_for, start_of}
use Rattle.duration.specs.Align.{Group, states_in, target_of}

-- how far apart two lists of durations are: the states' own changes, summed
unfoldable pub distance : List ℕ → List ℕ → ℕ
distance [] ys = 0
distance (x ∷ xs) [] = 0
distance (x ∷ xs) (y ∷ ys) = gap x y + distance xs ys

-- nowhere longer
abbrev pub Under : List ℕ → List ℕ → Type 0
Under xs ys = (i : ℕ) → get_or xs i 0 ≤ get_or ys i 0

-- from the start, the estimate with rho, to the durations of an outcome
pub record Fair (ss : States) (t : ℕ) (o : Outcome) : Type 0 where
  pub count : length o.durations ≡ size ss
  pub at_least : (i : ℕ) → i < size ss → get_or ss.shortest i 0 ≤ get_or o.durations i 0
  pub sum : total o.durations ≡ t
  pub one_way : Under (start_of ss t) o.durations ⊎ Under o.durations (start_of ss t)
  pub by_steps : Settles (rho_for ss t) ss t (start_of ss t) o.durations o.changes
  pub by_gap : o.changes ≡ gap (total (start_of ss t)) t
  pub by_states : o.changes ≡ distance (start_of ss t) o.durations
  pub nearest : (es : List ℕ) → length es ≡ size ss → total es ≡ t → distance (start_of ss t) o.durations ≤ distance (start_of ss t) es

-- of states with an end: fair where the target is above the sum of their shortest, and else the shortest for each state and no change
pub record FairTo (ss : States) (t : ℕ) (o : Outcome) : Type 0 where
  pub above : least ss < t → Fair ss t o
  pub otherwise : t ≤ least ss → o ≡ unchanged ss.shortest

-- of states by their end: the tail has its natural durations
abbrev pub FairToEnd : States → ℕ → End → Outcome → Type 0
FairToEnd ss frames (At x) o = FairTo ss (target_of x frames) o
FairToEnd ss frames Open o = o ≡ unchanged (naturals ss)

-- a group's outcome after so many frames: one duration a state
pub record FairGroup (ss : States) (g : Group) (frames : ℕ) (o : Outcome) : Type 0 where
  pub count : length o.durations ≡ size (states_in g ss)
  pub by_end : FairToEnd (states_in g ss) frames g.end o

-- group after group, from the frames so far
pub data FairAlong (ss : States) : List Group → ℕ → List ℕ → ℕ → Type 0 where
  ended : {frames : ℕ} → FairAlong ss [] frames [] 0
  next : {g : Group} {gs : List Group} {frames c k : ℕ} {ds es : List ℕ}
      → FairGroup ss g frames (record { durations = ds; changes = c })
      → FairAlong ss gs (frames + total ds) es k
      → FairAlong ss (g ∷ gs) frames (ds ++ es) (c + k)

-- what the theorem takes: lists within the sizes that agree, room, shortest durations of at least 1, and a target above their sum that is not refused
pub record Ample (ss : States) (t : ℕ) (out work : List ℕ) : Type 0 where
  pub some : 0 < size ss
  pub few : size ss ≤ most_states
  pub agree : length ss.varis ≡ size ss
  pub shortest : length ss.shortest ≡ size ss
  pub output : size ss ≤ length out
  pub workspace : size ss ≤ length work
  pub one_each : (i : ℕ) → i < size ss → 1 ≤ get_or ss.shortest i 0
  pub above : least ss < t
  pub within : t ≤ most_frames
  pub start : total (start_of ss t) ≤ most_frames

-- a call that is accepted, with a fair outcome at the front of its output
pub record Accepted (ss : States) (t : ℕ) (out : List ℕ) (r : Result ℕ Refusal) (out' : List ℕ) : Type 0 where
  pub outcome : Outcome
  pub answer : r ≡ Ok outcome.changes
  pub output : out' ≡ outcome.durations ++ drop (size ss) out
  pub fair : Fair ss t outcome

-- the states from a place on
abbrev pub states_from : ℕ → States → States
states_from n ss = states (drop n ss.means) (drop n ss.varis) (drop n ss.shortest)

-- where the last of so many groups begins
unfoldable pub last_from : List Group → ℕ
last_from [] = 0
last_from (g ∷ []) = g.from
last_from (g ∷ h ∷ gs) = last_from (h ∷ gs)

-- an alignment that is accepted: within the sizes, one duration a state, each at least its shortest and so 1, fair group after group, and the tail's natural
pub record AcceptedAlong (ss : States) (gs : List Group) (out : List ℕ) (r : Result Aligned Refusal) (out' : List ℕ) : Type 0 where
  pub outcome : Outcome
  pub answer : r ≡ Ok (record { states = size ss; changes = outcome.changes })
  pub output : out' ≡ outcome.durations ++ drop (size ss) out
  pub states : size ss ≤ most_states
  pub frames : total outcome.durations ≤ most_frames
  pub count : length outcome.durations ≡ size ss
  pub at_least : (i : ℕ) → i < size ss → get_or ss.shortest i 0 ≤ get_or outcome.durations i 0
  pub positive : (i : ℕ) → i < size ss → 1 ≤ get_or outcome.durations i 0
  pub fair : FairAlong ss gs 0 outcome.durations outcome.changes
  pub natural : drop (last_from gs) outcome.durations ≡ naturals (states_from (last_from gs) ss)
