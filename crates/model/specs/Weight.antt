-- RULES, Pairs: a voicing weight is a number that is given, or absent.
use Rattle.std.specs.Prelude.{Bool, Float}
use Rattle.std.specs.Float.{binary64}
use Rattle.std.specs.Float.Ieee.{of_bits, lt}
use Rattle.model.specs.declared.voice.model.Weight.{Weight}
use Rattle.model.specs.declared.voice.model.Weight.TheVariants.{Given, Absent}

-- RULES, Pairs: an absent weight is taken for the largest finite float
abbrev pub value_of : Weight → Float
value_of (Given x) = x
value_of Absent = of_bits binary64 0x7fef_ffff_ffff_ffff

-- RULES, Mask: a state is voiced where its weight is above the threshold, and not where either is NaN
abbrev pub voiced_at : Float → Weight → Bool
voiced_at threshold w = lt threshold (value_of w)
