-- Worked cases of masks, distances and boundaries, computed from the definitions.
use Rattle.std.specs.Prelude.{◌≡◌, refl, Bool, true, false, List, [], ◌∷◌}
use Rattle.model.specs.declared.voice.model.Weight.TheVariants.{Given}
use Rattle.std.specs.Float.{nan}
use Rattle.std.specs.Float.Ieee.{of_bits, lt}
use Rattle.floats.specs.Numbers.{nought, one}
use Rattle.lists.specs.Frames.{expand, fill}
use Rattle.voicing.specs.Mask.{mask_of}
use Rattle.voicing.specs.Boundaries.{ahead, lefts, rights, shut_all}
use Rattle.voicing.specs.Windows.{reach_before, reach_after}

-- a run of three, a gap, a run of one
abbrev runs : List Bool
runs = true ∷ true ∷ true ∷ false ∷ true ∷ []

pub left_distances : lefts 0 runs ≡ 0 ∷ 1 ∷ 2 ∷ 0 ∷ 0 ∷ []
unfolding lefts
left_distances = refl

pub right_distances : rights runs ≡ 2 ∷ 1 ∷ 0 ∷ 0 ∷ 0 ∷ []
unfolding rights ahead
right_distances = refl

-- at the threshold and NaN are unvoiced, a state of no frames has no part
pub frames : mask_of nought (Given one ∷ Given nought ∷ Given one ∷ Given nan ∷ []) (2 ∷ 1 ∷ 0 ∷ 1 ∷ []) ≡ true ∷ true ∷ false ∷ false ∷ []
unfolding mask_of expand lt of_bits
frames = refl

-- RULES, Cases: in case 10 a window of three over three voiced frames loses its first and its last
pub case_10_boundaries : shut_all (reach_before (1 ∷ 3 ∷ []) 1) (reach_after (1 ∷ 3 ∷ []) 1) (0 ∷ 1 ∷ 2 ∷ []) (2 ∷ 1 ∷ 0 ∷ []) (one ∷ one ∷ one ∷ []) ≡ nought ∷ one ∷ nought ∷ []
unfolding shut_all of_bits
case_10_boundaries = refl

pub filled_back : fill nought runs (one ∷ one ∷ one ∷ one ∷ []) ≡ one ∷ one ∷ one ∷ nought ∷ one ∷ []
unfolding fill
filled_back = refl
