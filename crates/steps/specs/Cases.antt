-- Worked cases of the rule and of its door, by computation.
use Rattle.std.specs.Prelude.{refl, false, List, [], ◌∷◌, None, Some, ℕ, negsuc, Float}
use Rattle.std.specs.Float.{inf, fin}
use Rattle.std.specs.Float.Ieee.{of_bits, of_int, sub, div, lt, is_nan}
use Rattle.lists.specs.Build.{build}
use Rattle.lists.specs.Totals.{total}
use Rattle.floats.specs.Order.{abs_of, cost_below}
use Rattle.floats.specs.Numbers.{number}
use Rattle.steps.specs.Steps.{states, key_of, keys, least_of, step, settle}
use Rattle.steps.specs.Promise.{SettleSays}

abbrev means : List Float
means = number 2 ∷ number 3 ∷ []

abbrev varis : List Float
varis = number 1 ∷ number 1 ∷ []

abbrev ones : List ℕ
ones = 1 ∷ 1 ∷ []

-- 1.5
abbrev rho : Float
rho = fin false 3 (negsuc 0)

-- RULES, Cases, 1: both states' costs are the same, and the first gives a frame
pub gives_one : SettleSays rho 8 (states means varis ones) (4 ∷ 5 ∷ []) (Some 1) (3 ∷ 5 ∷ [])
unfolding settle step keys build key_of least_of cost_below abs_of total of_bits of_int sub div lt is_nan
gives_one = record { answer = refl; durations = refl }

-- RULES, Cases, 5: without variance the costs are NaN or infinite, and the first state gets all frames
pub gets_four : SettleSays (inf false) 6 (states (number 2 ∷ number 2 ∷ []) (number 0 ∷ number 0 ∷ []) ones) (1 ∷ 1 ∷ []) (Some 4) (5 ∷ 1 ∷ [])
unfolding settle step keys build key_of least_of cost_below abs_of total of_bits of_int sub div lt is_nan
gets_four = record { answer = refl; durations = refl }

-- a state at its shortest gives nothing: both cost the same, and the second gives the frame
pub gives_second : SettleSays rho 8 (states means varis (4 ∷ 1 ∷ [])) (4 ∷ 5 ∷ []) (Some 1) (4 ∷ 4 ∷ [])
unfolding settle step keys build key_of least_of cost_below abs_of total of_bits of_int sub div lt is_nan
gives_second = record { answer = refl; durations = refl }

-- a start of 65,536 frames at its target, and one of a frame more
pub longest : SettleSays rho 65536 (states means varis ones) (65535 ∷ 1 ∷ []) (Some 0) (65535 ∷ 1 ∷ [])
unfolding settle step keys build key_of least_of cost_below abs_of total of_bits of_int sub div lt is_nan
longest = record { answer = refl; durations = refl }

pub too_long : SettleSays rho 65536 (states means varis ones) (65535 ∷ 2 ∷ []) None (65535 ∷ 2 ∷ [])
unfolding total
too_long = record { answer = refl; durations = refl }

-- a target not above the sum of the shortest, one above 65,536 frames, and a variance and a shortest too few
pub target-low : SettleSays rho 7 (states means varis (4 ∷ 3 ∷ [])) (4 ∷ 5 ∷ []) (Some 0) (4 ∷ 5 ∷ [])
unfolding total
target-low = record { answer = refl; durations = refl }

pub target-high : SettleSays rho 65537 (states means varis ones) (4 ∷ 5 ∷ []) (Some 0) (4 ∷ 5 ∷ [])
unfolding total
target-high = record { answer = refl; durations = refl }

pub uneven : SettleSays rho 8 (states means (number 1 ∷ []) ones) (4 ∷ 5 ∷ []) (Some 0) (4 ∷ 5 ∷ [])
uneven = record { answer = refl; durations = refl }

pub uneven_shortest : SettleSays rho 8 (states means varis (1 ∷ [])) (4 ∷ 5 ∷ []) (Some 0) (4 ∷ 5 ∷ [])
uneven_shortest = record { answer = refl; durations = refl }
