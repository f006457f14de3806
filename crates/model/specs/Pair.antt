-- RULES, Pairs: a mean and a variance that go together.
use Rattle.std.specs.Prelude.{◌≡◌, refl, List, [], ◌∷◌, false, cond, ◌^◌, Float}
use Rattle.std.specs.Float.{binary64}
use Rattle.std.specs.Float.Ieee.{of_bits, round, add, mul, div, lt}
use Rattle.lists.specs.Build.{fold_from}
use Rattle.floats.specs.Numbers.{nought, one}
use Rattle.floats.specs.Order.{abs_of}
use Rattle.model.specs.declared.mean_vari.MeanVari.{MeanVari}
use Rattle.model.specs.declared.mean_vari.Clamp.{Clamp}
use Rattle.model.specs.declared.mean_vari.Clamp.TheVariants.{High, Low, No}
use Rattle.model.specs.declared.mean_vari.Inverted.{Inverted}

-- a mean and a variance
abbrev pub pair : Float → Float → MeanVari
pair m v = record { 0 = m; 1 = v }

-- 1e19, 1e-19 and 1e38 as floats
abbrev pub high_bound : Float
high_bound = of_bits binary64 0x43e1_58e4_6091_3d00

abbrev pub low_bound : Float
low_bound = of_bits binary64 0x3bfd_83c9_4fb6_d2ac

abbrev pub largest_ivar : Float
largest_ivar = of_bits binary64 0x47d2_ced3_2a16_a1b1

-- each is the format's nearest to the decimal number, by computation
pub high-bound : high_bound ≡ round binary64 false (10 ^ 19) 1
unfolding of_bits round
high-bound = refl

pub low-bound : low_bound ≡ round binary64 false 1 (10 ^ 19)
unfolding of_bits round
low-bound = refl

pub largest-ivar : largest_ivar ≡ round binary64 false (10 ^ 38) 1
unfolding of_bits round
largest-ivar = refl

-- RULES, Pairs: 0 where the variance's size is above 1e19, 1e38 where it is below 1e-19, and else 1 / variance, at both bounds too
unfoldable pub ivar_of : Float → Float
ivar_of v = cond (lt high_bound (abs_of v)) nought (cond (lt (abs_of v) low_bound) largest_ivar (div binary64 one v))

-- RULES, Pairs: the pair with the inverse of its variance
abbrev pub with_ivar : MeanVari → MeanVari
with_ivar p = pair p.0 (ivar_of p.1)

-- RULES, Clamps: high where the variance's size is above 1e19, low where it is below 1e-19, and else neither: NaN is above and below nothing
unfoldable pub clamp_of : Float → Clamp
clamp_of v = cond (lt high_bound (abs_of v)) High (cond (lt (abs_of v) low_bound) Low No)

-- the inverse of a variance that is clamped so
abbrev pub inverse_by : Clamp → Float → Float
inverse_by High v = nought
inverse_by Low v = largest_ivar
inverse_by No v = div binary64 one v

-- RULES, Clamps: the pair with its inverse variance, and whether that was clamped
abbrev pub inverted : MeanVari → Inverted
inverted p = record { pair = with_ivar p; clamp = clamp_of p.1 }

-- RULES, Mask: the pair of a frame near a boundary, with inverse variance 0
abbrev pub with0 : MeanVari → MeanVari
with0 p = pair p.0 nought

-- RULES, Pairs: both numbers times the factor; in the Rust's order, the number first
abbrev pub weighted_by : MeanVari → Float → MeanVari
weighted_by p w = pair (mul binary64 p.0 w) (mul binary64 p.1 w)

-- the Rust's `add`: the means' sum and the variances' sum
abbrev pub plus : MeanVari → MeanVari → MeanVari
plus p q = pair (add binary64 p.0 q.0) (add binary64 p.1 q.1)

-- means and variances taken together, as far as both lists go
unfoldable pub pairs_of : List Float → List Float → List MeanVari
pairs_of [] vs = []
pairs_of (m ∷ ms) [] = []
pairs_of (m ∷ ms) (v ∷ vs) = pair m v ∷ pairs_of ms vs

-- RULES, Pairs: a sum of pairs starts from (0, 0) and goes from left to right
unfoldable pub sum_of : List Float → List Float → MeanVari
unfolding fold_from pairs_of
sum_of means varis = fold_from plus (pair nought nought) (pairs_of means varis)
