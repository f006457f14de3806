-- A record scaled, and a record added to another with a weight.
use Rattle.std.specs.Prelude.{List, [], ◌∷◌, map, Float}
use Rattle.std.specs.Float.{binary64}
use Rattle.std.specs.Float.Ieee.{add, mul}
use Rattle.model.specs.declared.mean_vari.MeanVari.{MeanVari}
use Rattle.model.specs.declared.voice.model.Weight.{Weight}
use Rattle.model.specs.declared.voice.model.Weight.TheVariants.{Given, Absent}
use Rattle.model.specs.Pair.{pair, weighted_by}
use Rattle.model.specs.Record.{Parameter}

-- the Rust's order here: the weight times the voicing weight
abbrev pub scaled_weight : Float → Weight → Weight
scaled_weight w (Given x) = Given (mul binary64 w x)
scaled_weight w Absent = Absent

-- RULES, Pairs: `mul` multiplies each number of a record by the factor
abbrev pub scaled : Parameter → Float → Parameter
scaled p w = record { parameters = map (λ (q : MeanVari). weighted_by q w) p.parameters; msd = scaled_weight w p.msd }

-- x, and weight × y added to it: two roundings
abbrev pub more_by : Float → Float → Float → Float
more_by w x y = add binary64 x (mul binary64 w y)

-- the same of mean and variance
abbrev pub pair_more_by : Float → MeanVari → MeanVari → MeanVari
pair_more_by w p q = pair (more_by w p.0 q.0) (more_by w p.1 q.1)

-- RULES, Pairs: as far as the shorter record goes: each x with its y, and an x without one as it is
unfoldable pub over_shorter : {A : Type 0} → (A → A → A) → List A → List A → List A
over_shorter f [] ys = []
over_shorter f (x ∷ xs) [] = x ∷ xs
over_shorter f (x ∷ xs) (y ∷ ys) = f x y ∷ over_shorter f xs ys

-- RULES, Pairs: the voicing weight is added to where both records have one, and else stays
abbrev pub added_weight : Float → Weight → Weight → Weight
added_weight w (Given x) (Given y) = Given (more_by w x y)
added_weight w (Given x) Absent = Given x
added_weight w Absent b = Absent

-- RULES, Pairs: `mul_add_assign` adds the other record's numbers, each times the factor
abbrev pub added : Parameter → Float → Parameter → Parameter
added p w q = record { parameters = over_shorter (pair_more_by w) p.parameters q.parameters; msd = added_weight w p.msd q.msd }
