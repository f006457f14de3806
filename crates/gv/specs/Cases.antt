-- Case 10's rows through the global variance, by computation; the bits are those that `mlpg.rs` gives.
use Rattle.std.specs.Prelude.{◌≡◌, refl, Bool, true, false, List, [], ◌∷◌, ℕ, Float}
use Rattle.std.specs.Float.{binary64}
use Rattle.std.specs.Float.Ieee.{of_bits, to_bits, add, sub, mul, div, neg, lt, of_int}
use Rattle.lists.specs.Build.{build, fold_from, over}
use Rattle.lists.specs.Frames.{select, count}
use Rattle.floats.specs.Root.{sqrt_of}
use Rattle.region.specs.Region.{Region}
use Rattle.region.specs.declared.Layout.{Layout}
use Rattle.gv.specs.Gv.{sum_from_first, mean_of, vari_of, conv_gv, plus_right, plus_left, gradient_at, gradient, hmm_obj, size_after}
use Rattle.gv.specs.Parmgen.{iterate, next_at, next_step, objective, turn, parmgen}
use Rattle.gv.specs.Promise.{opens, varied_in}

-- the bits of floats
unfoldable pub bits_of : List Float → List ℕ
unfolding to_bits
bits_of [] = []
bits_of (x ∷ xs) = to_bits binary64 x ∷ bits_of xs

-- and back
unfoldable pub from_bits : List ℕ → List Float
unfolding of_bits
from_bits [] = []
from_bits (n ∷ ns) = of_bits binary64 n ∷ from_bits ns

-- rows (1.25, 0, -0.25), (1, 0, 0), (1.25, 0, 0); right side 0.5, 2, 3.5; solved 1, 2, 3
abbrev pub matrix : List ℕ
matrix = 0x3ff4000000000000 ∷ 0 ∷ 0xbfd0000000000000 ∷ 0x3ff0000000000000 ∷ 0 ∷ 0 ∷ 0x3ff4000000000000 ∷ 0 ∷ 0 ∷ []

abbrev pub side : List ℕ
side = 0x3fe0000000000000 ∷ 0x4000000000000000 ∷ 0x400c000000000000 ∷ []

abbrev pub solved : List ℕ
solved = 0x3ff0000000000000 ∷ 0x4000000000000000 ∷ 0x4008000000000000 ∷ []

-- two windows, three frames
abbrev pub plan : Layout
plan = record { windows = 2; n = 3; w = 3 }

-- the region, of which the pairs are not read, with nine numbers as factors; target mean 2.0, variance 0.5
unfoldable pub varied : List Bool → Region
unfolding from_bits of_bits parmgen gradient iterate turn conv_gv count
varied on = varied_in plan on (of_bits binary64 0x4000000000000000) (of_bits binary64 0x3fe0000000000000)
    (record { means = []; ivars = []; matrix = from_bits matrix; side = from_bits side; factors = from_bits (1 ∷ 2 ∷ 3 ∷ 4 ∷ 5 ∷ 6 ∷ 7 ∷ 8 ∷ 9 ∷ []); values = from_bits solved })

-- frames 0 and 2 are switched: the values, and in front of the factors the gradient of those before the fifth step
pub some_switched : bits_of (varied (true ∷ false ∷ true ∷ [])).values ≡ 0x3fe1a09a2b1124e8 ∷ 0x4000000000000000 ∷ 0x400b97d9753bb6c6 ∷ []
unfolding bits_of varied from_bits parmgen iterate turn objective next_step next_at size_after hmm_obj over gradient gradient_at plus_right plus_left conv_gv mean_of vari_of build fold_from sum_from_first select count sqrt_of add sub mul div neg lt of_int of_bits
some_switched = refl

pub gradient-left : bits_of (varied (true ∷ false ∷ true ∷ [])).factors ≡ 0xbfc5f67ed77af45c ∷ 0x4000000000000000 ∷ 0x4010afb3f6bbd7a2 ∷ 4 ∷ 5 ∷ 6 ∷ 7 ∷ 8 ∷ 9 ∷ []
unfolding bits_of varied from_bits parmgen iterate turn objective next_step next_at size_after hmm_obj over gradient gradient_at plus_right plus_left conv_gv mean_of vari_of build fold_from sum_from_first select count sqrt_of add sub mul div neg lt of_int of_bits
gradient-left = refl

-- none is
pub none_switched : (bits_of (varied (false ∷ false ∷ false ∷ [])).values ≡ solved) × (bits_of (varied (false ∷ false ∷ false ∷ [])).factors ≡ 1 ∷ 2 ∷ 3 ∷ 4 ∷ 5 ∷ 6 ∷ 7 ∷ 8 ∷ 9 ∷ [])
unfolding bits_of varied from_bits parmgen count of_bits
none_switched = (refl, refl)

-- the region of one component has 36 floats
pub enough : (opens plan 3 1 1 36 ≡ true) × (opens plan 3 1 1 35 ≡ false) × (opens plan 2 1 1 36 ≡ false) × (opens plan 3 1 0 36 ≡ false)
enough = (refl, refl, refl, refl)
