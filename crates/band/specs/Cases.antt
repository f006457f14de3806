-- RULES, Cases: case 10 as a call of the band rows, by computation, and the input on which the Rust's `break` drops a window.
use Rattle.std.specs.Prelude.{◌≡◌, refl, Ok, true, false, List, [], ◌∷◌, ◌++◌, ℕ, replicate, pos, negsuc, Float}
use Rattle.std.specs.Float.{fin}
use Rattle.std.specs.Float.Ieee.{of_bits, add, mul, eq}
use Rattle.floats.specs.Numbers.{nought}
use Rattle.model.specs.Windows.{longest}
use Rattle.band.specs.Paper.{band_rows, right_side}
use Rattle.band.specs.Promise.{band_refusal, BandSays}

-- m, m / 2 and m / 4
abbrev pub whole : ℕ → Float
whole m = fin false m (pos 0)

abbrev pub halves : ℕ → Float
halves m = fin false m (negsuc 0)

abbrev pub quarters : ℕ → Float
quarters m = fin false m (negsuc 1)

abbrev pub widths : List ℕ
widths = 1 ∷ 3 ∷ []

abbrev pub coefs : List Float
coefs = whole 1 ∷ fin true 1 (negsuc 0) ∷ nought ∷ halves 1 ∷ []

-- all variances are 1; the second window's inverses are 0 at the run's two ends
abbrev pub ivars : List Float
ivars = whole 1 ∷ whole 1 ∷ whole 1 ∷ nought ∷ whole 1 ∷ nought ∷ []

abbrev pub means : List Float
means = whole 1 ∷ fin false 1 (pos 1) ∷ whole 3 ∷ whole 1 ∷ whole 1 ∷ whole 1 ∷ []

abbrev pub matrix : List Float
matrix = quarters 5 ∷ nought ∷ fin true 1 (negsuc 1) ∷ whole 1 ∷ nought ∷ nought ∷ quarters 5 ∷ nought ∷ nought ∷ []

abbrev pub side : List Float
side = halves 1 ∷ fin false 1 (pos 1) ∷ halves 7 ∷ []

-- the call with rows and a right side of sevens, each one number longer than it has to be
pub case_10 : BandSays widths coefs means ivars (replicate 10 (whole 7)) (replicate 4 (whole 7)) (Ok 3) (matrix ++ (whole 7 ∷ [])) (side ++ (whole 7 ∷ []))
unfolding band_refusal longest band_rows right_side add mul eq of_bits
case_10 = record { answer = refl; matrix = refl; side = refl }

-- windows (1) and (1, 1, 1), one frame, all variances 1: the Rust's row is (1, 0, 0)
pub one-frame : band_rows (1 ∷ 3 ∷ []) (whole 1 ∷ whole 1 ∷ whole 1 ∷ whole 1 ∷ []) 1 (whole 1 ∷ whole 1 ∷ []) 3 ≡ fin false 1 (pos 1) ∷ nought ∷ nought ∷ []
unfolding band_rows add mul eq of_bits
one-frame = refl
