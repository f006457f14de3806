-- What the crate's own functions ask of each other and give. The call's promise names none of it.
use Rattle.std.specs.Prelude.{◌≡◌, Bool, true, false, List, Option, MatchOption, ℕ, ◌≤◌, ◌<◌, length, get_or, set, Float}
use Rattle.lists.specs.Sizes.{most_frames, most_states}
use Rattle.lists.specs.Totals.{total}
use Rattle.steps.specs.Steps.{States, size, least, step}
use Rattle.steps.specs.Inner.Scores.{key_at, scores}
use Rattle.steps.specs.Inner.Tree.{Kept}
use Rattle.steps.specs.Inner.Pack.{lows, highs}

-- durations that a step is taken from
pub record Ready (ss : States) (ds : List ℕ) : Type 0 where
  pub some : 0 < size ss
  pub few : size ss ≤ most_states
  pub varis : length ss.varis ≡ size ss
  pub shortest : length ss.shortest ≡ size ss
  pub work : length ds ≡ size ss
  pub small : total ds ≤ most_frames

-- there is room for a step up (true) or down (false), of states with this total and this sum of the shortest
abbrev pub RoomFor : Bool → ℕ → ℕ → Type 0
RoomFor true low sum = sum < most_frames
RoomFor false low sum = low < sum

-- a number that a step up or down may change
abbrev pub MayMove : Bool → ℕ → Type 0
MayMove true d = d ≤ most_frames
MayMove false d = 1 ≤ d

-- what the rule is asked for: a target above the sum of the shortest, from a start whose total is known
pub record Aim (ss : States) (ds : List ℕ) (sum target : ℕ) : Type 0 where
  pub known : sum ≡ total ds
  pub above : least ss < target
  pub within : target ≤ most_frames

-- no other state is above its shortest
abbrev pub Lone : List ℕ → List ℕ → ℕ → Type 0
Lone ls ds p = (j : ℕ) → (j ≡ p → ⊥) → get_or ds j 0 ≤ get_or ls j 0

-- where such a state was found, it is one of them
abbrev pub FoundLone : List ℕ → List ℕ → Option ℕ → Type 0
FoundLone ls ds r = MatchOption r (Unit {0}) (λ (p : ℕ). (p < length ds) × Lone ls ds p)

-- a duration or a node's place stored in a packed list, with all else as it was
pub record PutsDuration (w : List ℕ) (p d : ℕ) (w' : List ℕ) : Type 0 where
  pub durations : lows w' ≡ set (lows w) p d
  pub tree : highs w' ≡ highs w

pub record PutsPlace (w : List ℕ) (i p : ℕ) (w' : List ℕ) : Type 0 where
  pub durations : lows w' ≡ lows w
  pub tree : highs w' ≡ set (highs w) i p

-- the tree of a packed list is played out over its durations
abbrev pub Standing : Bool → Float → States → List ℕ → Type 0
Standing up rho ss w = Kept (scores (key_at up rho ss (lows w))) (highs w) 1

pub record Plays (up : Bool) (rho : Float) (ss : States) (w w' : List ℕ) : Type 0 where
  pub durations : lows w' ≡ lows w
  pub tree : Standing up rho ss w'

-- and one step is taken
pub record Stepped (up : Bool) (rho : Float) (ss : States) (w w' : List ℕ) : Type 0 where
  pub durations : lows w' ≡ step up rho ss (lows w)
  pub tree : Standing up rho ss w'
