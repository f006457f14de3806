-- What the crate's own functions ask of each other and give. No public call's promise names any of it.
use Rattle.lists.specs.Ends.{answered, counted}
use Rattle.lists.specs.declared.Refusal.{Refusal}
use Rattle.std.specs.Prelude.{◌≡◌, List, [], ◌∷◌, ◌++◌, ℕ, ◌*◌, ◌≤◌, length, take, drop, replicate, Float, Result, Ok, Err}
use Rattle.std.proofs.lemmas.List.Edits.{sets}
use denote.Ref.{MutBor}
use denote.Param.Members.{Shared}
use Rattle.lists.specs.Sizes.{most_frames, most_states}
use Rattle.lists.specs.Totals.{total}
use Rattle.steps.specs.Steps.{States, size, least, Outcome}
use Rattle.duration.specs.Estimate.{estimates}
use Rattle.duration.specs.Align.{Group, fit_of, refusal_of}
use Rattle.lists.specs.Refusals.{or_else}
use Rattle.lists.specs.Answers.{Answer, answer_of}
use Rattle.duration.specs.Promise.{Says, early_refusal}
use Rattle.duration.specs.declared.align.Grown.{Grown}

-- lists that agree, with one number of the work space a state
pub record Agree (ss : States) (work : List ℕ) : Type 0 where
  pub few : size ss ≤ most_states
  pub varis : length ss.varis ≡ size ss
  pub shortest : length ss.shortest ≡ size ss
  pub workspace : length work ≡ size ss

-- the states' estimates in place, and their total
pub record Estimated (rho : Float) (ss : States) (r : ℕ) (work' : List ℕ) : Type 0 where
  pub total : r ≡ total (estimates rho ss)
  pub output : work' ≡ estimates rho ss

-- an outcome in place, or its refusal
pub record InPlace (k : ℕ) (o : Outcome) (r : Result ℕ Refusal) (work' : List ℕ) : Type 0 where
  pub answer : counted r ≡ answer_of k (o.changes ∷ [])
  pub output : k ≡ 0 → work' ≡ o.durations

-- a fit that is handed in, and told the sum of the states' shortest: it takes any work space that agrees
module _ {F : Type 0} (g : Shared F (ℕ × (MutBor (List ℕ) × Unit {0})) (Result ℕ Refusal × (MutBor (List ℕ) × Unit {0}))) (fit : F) (ss : States) where
  abbrev pub TakesStates : Type 0
  TakesStates = (p : MutBor (List ℕ)) → Agree ss p.now → g.pre fit (least ss, (p, tt))

  -- and leaves this outcome in place, or its refusal
  abbrev pub FitsStates : ℕ → Outcome → Type 0
  FitsStates k o = (p q : MutBor (List ℕ)) (r : Result ℕ Refusal) → Agree ss p.now → g.post fit (least ss, (p, tt)) (r, (q, tt)) → InPlace k o r q.now

-- a call that is refused early, or hands out that
abbrev pub FittedSays : States → ℕ → Outcome → List ℕ → List ℕ → Result ℕ Refusal → List ℕ → List ℕ → Type 0
FittedSays ss k o out work r = Says (or_else (early_refusal ss out work) k) (o.changes ∷ []) o.durations (size ss) out work (counted r)

-- an answer handed out: where it is one, the front of the work space is the output's; the work space is cleared
abbrev pub output_after : Result ℕ Refusal → List ℕ → List ℕ → List ℕ
output_after (Ok changes) new out = new
output_after (Err number) new out = out

pub record HandsOut (answer : Result ℕ Refusal) (n : ℕ) (out work : List ℕ) (r : Result ℕ Refusal) (out' work' : List ℕ) : Type 0 where
  pub same : r ≡ answer
  pub output : out' ≡ output_after answer (sets out 0 (take n work)) out
  pub workspace : work' ≡ sets work 0 (replicate n 0)

-- a group that lies in the lists, after so many frames
pub record Lies (ss : States) (work : List ℕ) (g : Group) (frames : ℕ) : Type 0 where
  pub lists : Agree ss work
  pub low : least ss ≤ most_frames
  pub order : g.from ≤ g.to
  pub inside : g.to ≤ size ss
  pub few : frames ≤ most_frames

-- a group's answer as a number and values: its changes and its frames
abbrev pub closed : Result Grown Refusal → Answer
closed = answered (λ g. g.changes ∷ g.frames ∷ [])

-- what a group that is not refused adds
abbrev pub grown : States → Group → ℕ → List ℕ
grown ss g frames = (fit_of ss g frames).changes ∷ total (fit_of ss g frames).durations ∷ []

-- a group's outcome in its place and these values as the answer, or its refusal
pub record Closes (ss : States) (g : Group) (frames : ℕ) (work values : List ℕ) (a : Answer) (work' : List ℕ) : Type 0 where
  pub answer : a ≡ answer_of (refusal_of ss g frames) values
  pub output : refusal_of ss g frames ≡ 0 → work' ≡ take g.from work ++ ((fit_of ss g frames).durations ++ drop g.to work)

-- labels of k states each that cover the lists
pub record Labelled (ss : States) (k : ℕ) (ends : List Float) (work : List ℕ) : Type 0 where
  pub lists : Agree ss work
  pub low : least ss ≤ most_frames
  pub some : 1 ≤ k
  pub cover : length ends * k ≡ size ss
