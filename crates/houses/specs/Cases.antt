-- Worked tables and calls.
use Rattle.std.specs.Prelude.{◌≡◌, refl, true, false, List, [], ◌∷◌, ◌++◌, map, ℕ, ◌+◌, take, replicate, Float}
use Rattle.std.specs.Float.{nan, inf, binary64}
use Rattle.std.specs.Float.Ieee.{of_bits}
use Rattle.lists.specs.Build.{build, rows}
use Rattle.lists.specs.Frames.{count}
use Rattle.lists.specs.Totals.{total}
use Rattle.floats.specs.Numbers.{nought}
use Rattle.model.specs.Windows.{all_of, finite, widths_fit, all_finite, window_refusal}
use Rattle.houses.specs.Slots.{Table, table, slot, up_to_last, trimmed, is_empty, owns, may_use, free_of}
use Rattle.houses.specs.Changes.{holding, cleared, put_in, started}
use Rattle.houses.specs.Promise.{table_refusal, set_refusal, clear_refusal, use_refusal, free_refusal, start_refusal}

-- RULES, Houses: numbers without the zeros at their end
pub zeros : (trimmed (3 ∷ 0 ∷ 5 ∷ 0 ∷ []) ≡ 3 ∷ 0 ∷ 5 ∷ []) × (up_to_last (3 ∷ 0 ∷ 5 ∷ 0 ∷ []) ≡ 3) × (trimmed (0 ∷ 0 ∷ 0 ∷ 0 ∷ []) ≡ []) × (trimmed (1 ∷ 3 ∷ 3 ∷ 5 ∷ []) ≡ 1 ∷ 3 ∷ 3 ∷ 5 ∷ []) × (trimmed [] ≡ [])
unfolding up_to_last
zeros = (refl, refl, refl, refl, refl)

-- slots at the ends of what each house has, and behind the last
abbrev edges : List ℕ
edges = 0 ∷ 3 ∷ 4 ∷ 7 ∷ 8 ∷ 11 ∷ 12 ∷ []

-- RULES, Houses: slots 4 to 7 are house 0's own and 8 to 11 house 1's; a house that doesn't exist has none
pub whose : (map (owns 0) edges ≡ false ∷ false ∷ true ∷ true ∷ false ∷ false ∷ false ∷ [])
    × (map (owns 1) edges ≡ false ∷ false ∷ false ∷ false ∷ true ∷ true ∷ false ∷ [])
    × (map (owns 2) edges ≡ replicate 7 false)
    × (map (may_use 0) edges ≡ true ∷ true ∷ true ∷ true ∷ false ∷ false ∷ false ∷ [])
    × (map (may_use 1) edges ≡ true ∷ true ∷ false ∷ false ∷ true ∷ true ∷ false ∷ [])
    × (map (may_use 2) edges ≡ replicate 7 false)
whose = (refl, refl, refl, refl, refl, refl)

-- sixty coefficients, the first of them this
abbrev sixty : Float → List Float
sixty x = x ∷ replicate 59 nought

-- RULES, Houses: a slot holds a set, or is empty where the set would be refused; what lies behind the set isn't looked at
pub held : (is_empty (slot (1 ∷ 3 ∷ 0 ∷ 0 ∷ []) (sixty nought)) ≡ false)
    × (is_empty (slot (15 ∷ 15 ∷ 15 ∷ 15 ∷ []) (sixty nought)) ≡ false)
    × (is_empty (slot (1 ∷ 0 ∷ 0 ∷ 0 ∷ []) (nought ∷ nan ∷ [])) ≡ false)
    × (is_empty (slot (1 ∷ 0 ∷ 3 ∷ 0 ∷ []) (sixty nought)) ≡ true)
    × (is_empty (slot (0 ∷ 3 ∷ 0 ∷ 0 ∷ []) (sixty nought)) ≡ true)
    × (is_empty (slot (16 ∷ 0 ∷ 0 ∷ 0 ∷ []) (sixty nought)) ≡ true)
    × (is_empty (slot (1 ∷ 3 ∷ 0 ∷ 0 ∷ []) (sixty nan)) ≡ true)
    × (is_empty (slot (1 ∷ 3 ∷ 0 ∷ 0 ∷ []) (sixty (inf true))) ≡ true)
    × (is_empty (slot (1 ∷ 3 ∷ 0 ∷ 0 ∷ []) (replicate 3 nought)) ≡ true)
    × (is_empty cleared ≡ true)
unfolding is_empty up_to_last window_refusal widths_fit all_finite all_of finite total of_bits
held = (refl, refl, refl, refl, refl, refl, refl, refl, refl, refl)

-- a table that ends in slot 4, with one window of one coefficient there
abbrev short : Table
short = table (replicate 16 0 ++ (1 ∷ [])) (replicate 241 nought)

-- RULES, Houses: 23 goes before 25, this before 1, 2 and 4, and last is 6
pub set_order : (set_refusal short 1 4 [] [] ≡ 23) × (set_refusal short 0 4 [] [] ≡ 25) × (set_refusal short 0 5 [] (nan ∷ []) ≡ 1) × (set_refusal short 0 5 (1 ∷ []) (nan ∷ nan ∷ []) ≡ 2) × (set_refusal short 0 5 (1 ∷ []) [] ≡ 4) × (set_refusal short 0 5 (1 ∷ []) (nought ∷ []) ≡ 6)
unfolding set_refusal table_refusal is_empty up_to_last window_refusal widths_fit all_finite all_of finite total of_bits
set_order = (refl, refl, refl, refl, refl, refl)

-- and 23 before 24, this before 6; the common slots are cleared by nobody, and not used by a house that doesn't exist
pub other_orders : (clear_refusal short 1 4 ≡ 23) × (clear_refusal short 0 3 ≡ 23) × (clear_refusal short 0 5 ≡ 24) × (clear_refusal short 0 4 ≡ 6)
    × (use_refusal short 1 4 [] ≡ 23) × (use_refusal short 2 0 [] ≡ 23) × (use_refusal short 1 0 [] ≡ 24) × (use_refusal short 0 4 [] ≡ 6)
    × (free_refusal short 2 ≡ 23) × (free_refusal short 1 ≡ 6)
unfolding clear_refusal use_refusal free_refusal table_refusal is_empty up_to_last window_refusal widths_fit all_finite all_of finite total of_bits
other_orders = (refl, refl, refl, refl, refl, refl, refl, refl, refl, refl)

-- RULES, Houses: a table with a number too few in either list
pub lengths : (table_refusal (table (replicate 48 0) (replicate 720 nought)) ≡ 0) × (table_refusal (table (replicate 47 0) (replicate 720 nought)) ≡ 6) × (table_refusal (table (replicate 48 0) (replicate 719 nought)) ≡ 6)
unfolding table_refusal
lengths = (refl, refl, refl)

-- RULES, Houses: 23 for five sets; 1 for a row of five numbers, and for a 0 before a width; 2 before 4; 4 where a width is left over, where there are widths of no set, and where a coefficient is; 6
pub start_order : (start_refusal short 5 [] [] ≡ 23) × (start_refusal short 1 (1 ∷ 1 ∷ 1 ∷ 1 ∷ 0 ∷ []) [] ≡ 1) × (start_refusal short 2 (1 ∷ 0 ∷ 0 ∷ 1 ∷ []) (nan ∷ []) ≡ 1) × (start_refusal short 1 (1 ∷ []) (nan ∷ nan ∷ []) ≡ 2)
    × (start_refusal short 2 (1 ∷ 1 ∷ 1 ∷ []) (replicate 3 nought) ≡ 4) × (start_refusal short 0 (0 ∷ []) [] ≡ 4) × (start_refusal short 1 (1 ∷ 0 ∷ []) (replicate 2 nought) ≡ 4) × (start_refusal short 0 [] [] ≡ 6) × (start_refusal short 1 (1 ∷ 0 ∷ []) (nought ∷ []) ≡ 6)
unfolding start_refusal table_refusal up_to_last build widths_fit all_finite all_of finite total of_bits
start_order = (refl, refl, refl, refl, refl, refl, refl, refl, refl)

-- two common sets, of one window and of three, in rows of three, and what lay behind the table's ends
abbrev worked : Table
worked = started 3 (1 ∷ 0 ∷ 0 ∷ 1 ∷ 3 ∷ 3 ∷ []) (build (of_bits binary64) 8) (table (replicate 48 9 ++ (7 ∷ [])) (replicate 720 nan ++ (inf true ∷ [])))

-- RULES, Houses: set i is in slot i, every other slot is empty, and what lies behind isn't touched
pub started-table : (worked.widths ≡ 1 ∷ 0 ∷ 0 ∷ 0 ∷ 1 ∷ 3 ∷ 3 ∷ 0 ∷ replicate 40 0 ++ (7 ∷ []))
    × (worked.coefficients ≡ of_bits binary64 0 ∷ replicate 59 nought ++ (build (λ i. of_bits binary64 (i + 1)) 7 ++ (replicate 653 nought ++ (inf true ∷ []))))
unfolding started rows build total of_bits
started-table = (refl, refl)

-- house 0 has set slot 4: one window of three coefficients
abbrev occupied : Table
occupied = put_in 4 (holding (3 ∷ []) (replicate 3 (of_bits binary64 1))) worked

abbrev four : List ℕ
four = replicate 4 9

-- RULES, Houses: it has three slots free then, and the other house four; the slot isn't set again, and used and cleared by it alone; a common one is used by both
pub calls : (free_of 0 worked ≡ 4) × (free_of 0 occupied ≡ 3) × (free_of 1 occupied ≡ 4)
    × (set_refusal worked 0 4 (3 ∷ []) (replicate 3 nought) ≡ 0) × (set_refusal occupied 0 4 (3 ∷ []) (replicate 3 nought) ≡ 25)
    × (use_refusal occupied 0 4 four ≡ 0) × (use_refusal occupied 0 4 (take 3 four) ≡ 6) × (use_refusal occupied 1 4 four ≡ 23) × (use_refusal occupied 0 1 four ≡ 0) × (use_refusal occupied 1 1 four ≡ 0) × (use_refusal occupied 1 2 four ≡ 24)
    × (clear_refusal occupied 1 4 ≡ 23) × (clear_refusal occupied 0 4 ≡ 0) × (put_in 4 cleared occupied ≡ worked)
unfolding free_of set_refusal clear_refusal use_refusal table_refusal put_in started rows build count is_empty up_to_last window_refusal widths_fit all_finite all_of finite total of_bits
calls = (refl, refl, refl, refl, refl, refl, refl, refl, refl, refl, refl, refl, refl, refl)
