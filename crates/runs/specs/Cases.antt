-- RULES, One run alone: worked cases of runs and of their refusals, computed from the definitions.
use Rattle.std.specs.Prelude.{Option, None, Some, ◌≡◌, refl, true, false, List, [], ◌∷◌, ℕ, replicate, Float}
use Rattle.std.specs.Float.Ieee.{of_bits, lt}
use Rattle.floats.specs.Numbers.{nought, one}
use Rattle.model.specs.Record.{from_linear}
use Rattle.model.specs.Windows.{widths_fit, all_finite, finite}
use Rattle.voicing.specs.Mask.{mask_of, weights_of}
use Rattle.mlpg_adjust.specs.Promise.{disagree}
use Rattle.runs.specs.Runs.{runs_from, runs_of, pairs_of}
use Rattle.runs.specs.Promise.{runs_in, runs_refusal, run_refusal}

-- a run of three, a gap, a run of one, and a gap
pub frames : pairs_of (runs_of (true ∷ true ∷ true ∷ false ∷ true ∷ false ∷ [])) ≡ 0 ∷ 3 ∷ 4 ∷ 1 ∷ []
unfolding pairs_of runs_from
frames = refl

-- ---- states of one pair and a weight: unvoiced, voiced, unvoiced, voiced, voiced

abbrev records : List Float
records = one ∷ one ∷ nought ∷ one ∷ one ∷ one ∷ one ∷ one ∷ nought ∷ one ∷ one ∷ one ∷ one ∷ one ∷ one ∷ []

-- the third has no frames, and separates nothing; nor do the last one's, which has none either
pub joined : pairs_of (runs_in 1 true nought 1 records (3 ∷ 2 ∷ 0 ∷ 4 ∷ 0 ∷ [])) ≡ 3 ∷ 6 ∷ []
unfolding pairs_of runs_in mask_of weights_of lt of_bits from_linear
joined = refl

-- one frame of it does
pub parted : pairs_of (runs_in 1 true nought 1 records (3 ∷ 2 ∷ 1 ∷ 4 ∷ 0 ∷ [])) ≡ 3 ∷ 2 ∷ 6 ∷ 4 ∷ []
unfolding pairs_of runs_in mask_of weights_of lt of_bits from_linear
parted = refl

-- two runs need four numbers
pub room_of_four : runs_refusal 1 true nought 1 records (3 ∷ 2 ∷ 1 ∷ 4 ∷ 0 ∷ []) (0 ∷ 0 ∷ 0 ∷ 0 ∷ []) ≡ 0
unfolding runs_refusal mask_of weights_of lt of_bits from_linear
room_of_four = refl

pub room_of_three : runs_refusal 1 true nought 1 records (3 ∷ 2 ∷ 1 ∷ 4 ∷ 0 ∷ []) (0 ∷ 0 ∷ 0 ∷ []) ≡ 6
unfolding runs_refusal mask_of weights_of lt of_bits from_linear
room_of_three = refl

-- ---- the order of 6, 20, 21 and 22

-- run k of two frames and of four, in a window of so many coefficients, with so much room
abbrev number : Option Float → ℕ → ℕ → ℕ → ℕ
number gv k width room =
    run_refusal (record { v = 1; masked = true; threshold = nought; fill = nought; gv = gv }) (width ∷ []) (replicate width one) records (3 ∷ 2 ∷ 1 ∷ 4 ∷ 0 ∷ []) (one ∷ one ∷ [])
    (0 ∷ 0 ∷ 0 ∷ 0 ∷ 0 ∷ []) k (replicate room one) (replicate 192 one) (replicate 16 0)

pub accepted : number None 1 1 4 ≡ 0
unfolding run_refusal widths_fit all_finite finite disagree runs_from mask_of weights_of lt of_bits from_linear
accepted = refl

-- a run of four frames in room for three is 6, whatever else
pub six : number (Some one) 1 3 3 ≡ 6
unfolding run_refusal widths_fit all_finite finite disagree runs_from mask_of weights_of lt of_bits from_linear
six = refl

-- one that is not there needs no room: 20 with GV on
pub twenty : number (Some one) 2 3 0 ≡ 20
unfolding run_refusal widths_fit all_finite finite disagree runs_from mask_of weights_of lt of_bits from_linear
twenty = refl

-- and 21 with GV off
pub twenty_one : number None 2 3 0 ≡ 21
unfolding run_refusal widths_fit all_finite finite disagree runs_from mask_of weights_of lt of_bits from_linear
twenty_one = refl

pub twenty_two : number None 0 3 2 ≡ 22
unfolding run_refusal widths_fit all_finite finite disagree runs_from mask_of weights_of lt of_bits from_linear
twenty_two = refl
