-- The step rule.
use Rattle.std.specs.Prelude.{◌≡◌, Bool, true, false, cond, List, [], ◌∷◌, ℕ, zero, suc, ◌+◌, ◌-◌, ◌<◌, ltb, eqb, length, get_or, set, Float}
use Rattle.std.specs.Float.{nan, binary64}
use Rattle.std.specs.Float.Ieee.{sub, div}
use Rattle.lists.specs.Build.{build}
use Rattle.lists.specs.Totals.{total}
use Rattle.floats.specs.Order.{abs_of, cost_below}
use Rattle.floats.specs.Numbers.{number}

-- RULES, Durations: a state has a mean, a variance and a shortest duration of its own
pub record State : Type 0 where
  pub mean : Float
  pub vari : Float
  pub shortest : ℕ

abbrev pub state : Float → Float → ℕ → State
state m v l = record { mean = m; vari = v; shortest = l }

-- states as they are lent: a list of each
pub record States : Type 0 where
  pub means : List Float
  pub varis : List Float
  pub shortest : List ℕ

abbrev pub states : List Float → List Float → List ℕ → States
states ms vs ls = record { means = ms; varis = vs; shortest = ls }

-- how many there are: as many as means
abbrev pub size : States → ℕ
size ss = length ss.means

-- the state at a place
abbrev pub state_at : States → ℕ → State
state_at ss i = state (get_or ss.means i nan) (get_or ss.varis i nan) (get_or ss.shortest i 0)

-- RULES, Durations: the sum of the shortest, below which no fit goes
abbrev pub least : States → ℕ
least ss = total ss.shortest

-- RULES, Durations: a state's cost at d frames is how far (d - mean) / variance is from rho
abbrev pub cost_of : Float → Float → Float → ℕ → Float
cost_of rho m v d = abs_of (sub binary64 rho (div binary64 (sub binary64 (number d) m) v))

-- RULES, Durations: a step gives a state one frame (true) or takes one (false)
abbrev pub moved : Bool → ℕ → ℕ
moved true d = d + 1
moved false d = d - 1

-- what a state's step would cost, if it may take one
pub data Key : Type 0 where
  Fixed : Key
  Cost : Float → Key

-- RULES, Durations: a step costs what its state costs after it; a state that is not above its shortest has no step down, and is fixed
unfoldable pub key_of : Bool → Float → State → ℕ → Key
key_of true rho x d = Cost (cost_of rho x.mean x.vari (d + 1))
key_of false rho x d = cond (ltb x.shortest d) (Cost (cost_of rho x.mean x.vari (d - 1))) Fixed

-- one key a state
unfoldable pub keys : Bool → Float → States → List ℕ → List Key
keys up rho ss ds = build (λ i. key_of up rho (state_at ss i) (get_or ds i 0)) (size ss)

-- RULES, Durations: NaN costs are all equal, and more than infinity; a fixed state comes after all costs
abbrev pub sooner : Key → Key → Bool
sooner Fixed b = false
sooner (Cost x) Fixed = true
sooner (Cost x) (Cost y) = cost_below x y

-- RULES, Durations: of equal costs the first state is taken: the first key, unless the first least of the others is sooner
unfoldable pub least_of : List Key → ℕ
least_of [] = 0
least_of (x ∷ xs) = let i = least_of xs in cond (sooner (get_or xs i Fixed) x) (suc i) 0

-- one step, up (true) or down (false), of the state whose key is the first least
unfoldable pub step : Bool → Float → States → List ℕ → List ℕ
step up rho ss ds = let i = least_of (keys up rho ss ds) in set ds i (moved up (get_or ds i 0))

-- RULES, Durations: as long as the total is below the target, the state whose step up costs least takes it; as long as it is above, the state whose step
-- down costs least, of those that have one: from the durations ds the rule ends at es, after k steps
pub data Settles (rho : Float) (ss : States) (t : ℕ) : List ℕ → List ℕ → ℕ → Type 0 where
  there : {ds : List ℕ} → total ds ≡ t → Settles rho ss t ds ds 0
  below : {ds es : List ℕ} {k : ℕ} → total ds < t → Settles rho ss t (step true rho ss ds) es k → Settles rho ss t ds es (suc k)
  above : {ds es : List ℕ} {k : ℕ} → t < total ds → Settles rho ss t (step false rho ss ds) es k → Settles rho ss t ds es (suc k)

-- the durations that a fit comes to, and its unit changes
pub record Outcome : Type 0 where
  pub durations : List ℕ
  pub changes : ℕ

-- with no change
abbrev pub unchanged : List ℕ → Outcome
unchanged ds = record { durations = ds; changes = 0 }

-- with one change more
abbrev pub once_more : Outcome → Outcome
once_more o = record { durations = o.durations; changes = suc o.changes }

-- The same as a computation: while the total is not t, a step. It takes at most as many as it is given; where that is enough, it ends where
-- `Settles` does, and nowhere else (`settle_settles`, `settles_one`).
unfoldable pub settle : ℕ → Float → States → ℕ → List ℕ → Outcome
settle zero rho ss t ds = unchanged ds
settle (suc most) rho ss t ds =
    elim (eqb (total ds) t) [
      | true ↦ unchanged ds
      | false ↦ once_more (settle most rho ss t (step (ltb (total ds) t) rho ss ds))
    ]
