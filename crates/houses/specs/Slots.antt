-- A table of window sets: what the lists that are lent for it hold, and whose each slot is.
use Rattle.std.specs.Prelude.{Bool, ◌&&◌, ◌||◌, not, cond, List, [], ◌∷◌, ℕ, suc, ◌+◌, ◌*◌, leb, ltb, eqb, take, Float}
use Rattle.lists.specs.Build.{build}
use Rattle.lists.specs.Frames.{count}
use Rattle.lists.specs.Parts.{part}
use Rattle.lists.specs.Sizes.{most_windows, most_set_taps, most_common, most_own, house_count}
use Rattle.lists.specs.Totals.{total}
use Rattle.model.specs.Windows.{window_refusal}

-- RULES, Houses: two lists, the widths of all slots and their coefficients
pub record Table : Type 0 where
  pub widths : List ℕ
  pub coefficients : List Float

abbrev pub table : List ℕ → List Float → Table
table widths coefficients = record { widths = widths; coefficients = coefficients }

-- RULES, Houses: what a slot has of each
pub record Slot : Type 0 where
  pub widths : List ℕ
  pub coefficients : List Float

abbrev pub slot : List ℕ → List Float → Slot
slot widths coefficients = record { widths = widths; coefficients = coefficients }

-- RULES, Houses: four widths and sixty coefficients for each slot; of a slot that a list ends before, or in, what is there
abbrev pub slot_at : Table → ℕ → Slot
slot_at t s = slot (part (s * most_windows) most_windows t.widths) (part (s * most_set_taps) most_set_taps t.coefficients)

-- how many numbers there are up to the last that isn't 0
unfoldable pub up_to_last : List ℕ → ℕ
up_to_last [] = 0
up_to_last (w ∷ ws) = cond (eqb (w + up_to_last ws) 0) 0 (suc (up_to_last ws))

-- RULES, Houses: numbers without the zeros at their end
abbrev pub trimmed : List ℕ → List ℕ
trimmed row = take (up_to_last row) row

-- RULES, Houses: the set of a slot: its widths, and as many of its coefficients as these sum to
abbrev pub widths_in : Slot → List ℕ
widths_in s = trimmed s.widths

abbrev pub coefficients_in : Slot → List Float
coefficients_in s = take (total (widths_in s)) s.coefficients

-- RULES, Houses: a slot is empty where the set would be refused
unfoldable pub is_empty : Slot → Bool
is_empty s = not (eqb (window_refusal (widths_in s) (coefficients_in s)) 0)

-- RULES, Houses: the first slots are common
abbrev pub is_common : ℕ → Bool
is_common s = ltb s most_common

-- RULES, Houses: slots 4 to 7 are house 0's own and 8 to 11 house 1's
abbrev pub first_own : ℕ → ℕ
first_own house = most_common + house * most_own

abbrev pub owns : ℕ → ℕ → Bool
owns house s = ltb house house_count && (leb (first_own house) s && ltb s (first_own house + most_own))

-- RULES, Houses: a house may use the common slots and its own; one that doesn't exist none
abbrev pub may_use : ℕ → ℕ → Bool
may_use house s = ltb house house_count && (is_common s || owns house s)

-- RULES, Houses: how many of the house's own four slots are empty
unfoldable pub free_of : ℕ → Table → ℕ
unfolding is_empty
free_of house t = count (build (λ i. is_empty (slot_at t (first_own house + i))) most_own)
