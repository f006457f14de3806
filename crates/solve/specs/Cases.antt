-- RULES, Cases: case 10's equations solved, by computation.
use Rattle.std.specs.Prelude.{◌≡◌, refl, true, false, List, [], ◌∷◌, ℕ, pos, negsuc, Float}
use Rattle.std.specs.Float.{fin}
use Rattle.std.specs.Float.Ieee.{of_bits, sub, mul, div}
use Rattle.solve.specs.Solve.{solution}

-- m
abbrev whole : ℕ → Float
whole m = fin false m (pos 0)

-- m / 2
abbrev halves : ℕ → Float
halves m = fin false m (negsuc 0)

-- m / 4
abbrev quarters : ℕ → Float
quarters m = fin false m (negsuc 1)

-- rows (1.25, 0, -0.25), (1, 0, 0), (1.25, 0, 0)
abbrev matrix : List Float
matrix = quarters 5 ∷ whole 0 ∷ fin true 1 (negsuc 1) ∷ whole 1 ∷ whole 0 ∷ whole 0 ∷ quarters 5 ∷ whole 0 ∷ whole 0 ∷ []

-- and their right side 0.5, 2, 3.5
abbrev side : List Float
side = halves 1 ∷ fin false 1 (pos 1) ∷ halves 7 ∷ []

-- and their solution 1, 2, 3
pub case_10_solved : solution 3 matrix side ≡ whole 1 ∷ fin false 1 (pos 1) ∷ whole 3 ∷ []
unfolding solution sub mul div of_bits
case_10_solved = refl
