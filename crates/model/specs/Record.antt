-- A state's record: pairs and a voicing weight, and the flat list that says them.
use Rattle.std.specs.Prelude.{Option, Some, None, List, [], ◌∷◌, ◌++◌, map, ℕ, zero, suc, ◌+◌, ◌*◌, ◌/◌, length, take, drop, Float}
use Rattle.model.specs.declared.voice.model.Weight.{Weight}
use Rattle.model.specs.declared.voice.model.Weight.TheVariants.{Given, Absent}
use Rattle.model.specs.declared.mean_vari.MeanVari.{MeanVari}
use Rattle.model.specs.Pair.{pairs_of}

-- RULES, Pairs: a state's pairs and its voicing weight; the Rust's `ModelParameter`
pub record Parameter : Type 0 where
  pub parameters : List MeanVari
  pub msd : Weight

-- RULES, Pairs: a record has its means first
abbrev pub means_of : List Float → List Float
means_of lin = take (length lin / 2) lin

-- then as many variances
abbrev pub varis_of : List Float → List Float
varis_of lin = take (length lin / 2) (drop (length lin / 2) lin)

-- then its weight, or nothing
abbrev pub rest_of : List Float → List Float
rest_of lin = drop (2 * (length lin / 2)) lin

-- the weight is given exactly where a number is left
abbrev pub first : List Float → Weight
first [] = Absent
first (x ∷ xs) = Given x

-- the Rust's `from_linear`
unfoldable pub from_linear : List Float → Parameter
unfolding pairs_of
from_linear lin = record { parameters = pairs_of (means_of lin) (varis_of lin); msd = first (rest_of lin) }

-- a weight as that list
abbrev pub weights : Weight → List Float
weights (Given x) = x ∷ []
weights Absent = []

-- the flat list that says a record: `from_linear`'s way back
unfoldable pub to_linear : Parameter → List Float
to_linear p = map (λ (q : MeanVari). q.0) p.parameters ++ (map (λ (q : MeanVari). q.1) p.parameters ++ weights p.msd)

-- RULES, Pairs: which pair belongs to a window and a component
abbrev pub pair_number : ℕ → ℕ → ℕ → ℕ
pair_number v window component = v * window + component

-- the pair of a number, counted from 0
unfoldable pub pair_at : List MeanVari → ℕ → Option MeanVari
pair_at [] n = None
pair_at (p ∷ ps) zero = Some p
pair_at (p ∷ ps) (suc n) = pair_at ps n
