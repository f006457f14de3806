-- What the calls promise.
use Rattle.std.specs.Prelude.{◌≡◌, Result, Bool, ◌&&◌, ◌||◌, cond, List, [], ◌∷◌, ℕ, ◌*◌, leb, ltb, eqb, length, Float}
use Rattle.lists.specs.Answers.{answer_of, given, written}
use Rattle.lists.specs.Build.{build}
use Rattle.lists.specs.Ends.{counted, spanned, refused}
use Rattle.lists.specs.Refusals.{or_else}
use Rattle.lists.specs.Sizes.{most_windows, most_set_taps, slot_count, most_common, house_count}
use Rattle.lists.specs.Totals.{total}
use Rattle.lists.specs.declared.Refusal.{Refusal}
use Rattle.lists.specs.declared.Span.{Span}
use Rattle.model.specs.Windows.{all_of, widths_fit, all_finite, window_refusal}
use Rattle.houses.specs.Slots.{Table, slot_at, trimmed, widths_in, is_empty, owns, may_use, free_of}
use Rattle.houses.specs.Changes.{holding, cleared, put_in, row_length, row_of, started}

-- ---- refusals, in the order of RULES, Houses

-- RULES, Houses: last is 6, of a table that is too short
unfoldable pub table_refusal : Table → ℕ
table_refusal t = cond (ltb (length t.widths) (slot_count * most_windows) || ltb (length t.coefficients) (slot_count * most_set_taps)) 6 0

-- RULES, Houses: 23 where the slot is not the house's own, 25 where it isn't empty, 1, 2 and 4 as windows are
unfoldable pub set_refusal : Table → ℕ → ℕ → List ℕ → List Float → ℕ
set_refusal t house s widths coefficients =
    or_else (cond (owns house s) 0 23) (or_else (cond (is_empty (slot_at t s)) 0 25) (or_else (window_refusal widths coefficients) (table_refusal t)))

-- RULES, Houses: 23 where it is not the house's own, 24 where it is empty already
unfoldable pub clear_refusal : Table → ℕ → ℕ → ℕ
clear_refusal t house s = or_else (cond (owns house s) 0 23) (or_else (cond (is_empty (slot_at t s)) 24 0) (table_refusal t))

-- RULES, Houses: 23 where the slot is neither common nor the house's own, 24 where it is empty, 6 for fewer than four places
unfoldable pub use_refusal : Table → ℕ → ℕ → List ℕ → ℕ
use_refusal t house s widths =
    or_else (cond (may_use house s) 0 23) (or_else (cond (is_empty (slot_at t s)) 24 0) (or_else (table_refusal t) (cond (ltb (length widths) most_windows) 6 0)))

-- RULES, Houses: 23 where there is no such house
unfoldable pub free_refusal : Table → ℕ → ℕ
free_refusal t house = or_else (cond (ltb house house_count) 0 23) (table_refusal t)

-- RULES, Houses: 1 where a row has more than four numbers, or a row without the zeros at its end is out of range
abbrev pub row_fits : List ℕ → Bool
row_fits row = widths_fit (trimmed row)

abbrev pub rows_fit : ℕ → List ℕ → Bool
rows_fit common widths = let n = row_length common widths in leb n most_windows && all_of row_fits (build (row_of n widths) common)

-- RULES, Houses: 4 where the rows are not all of the list, or the coefficients are not as many as all widths sum to
abbrev pub common_agree : ℕ → List ℕ → List Float → Bool
common_agree common widths coefficients = eqb (common * row_length common widths) (length widths) && eqb (length coefficients) (total widths)

-- RULES, Houses: 23 where there are more than 4 sets, 1 and 2 for any of them
unfoldable pub start_refusal : Table → ℕ → List ℕ → List Float → ℕ
start_refusal t common widths coefficients =
    or_else (cond (leb common most_common) 0 23)
    (or_else (cond (rows_fit common widths) 0 1)
    (or_else (cond (all_finite coefficients) 0 2) (or_else (cond (common_agree common widths coefficients) 0 4) (table_refusal t))))

-- ---- promises

-- RULES, Refusals: a call that changes a table, with the number of its refusal and the table that it leaves where that is 0
pub record ChangesTo (k : ℕ) (new t : Table) (r : Result (Unit {0}) Refusal) (t' : Table) : Type 0 where
  pub answer : refused r ≡ k
  pub left : t' ≡ given k new t

abbrev pub StartSays : Table → ℕ → List ℕ → List Float → Result (Unit {0}) Refusal → Table → Type 0
StartSays t common widths coefficients = ChangesTo (start_refusal t common widths coefficients) (started (row_length common widths) widths coefficients t) t

abbrev pub SetSays : Table → ℕ → ℕ → List ℕ → List Float → Result (Unit {0}) Refusal → Table → Type 0
SetSays t house s widths coefficients = ChangesTo (set_refusal t house s widths coefficients) (put_in s (holding widths coefficients) t) t

abbrev pub ClearSays : Table → ℕ → ℕ → Result (Unit {0}) Refusal → Table → Type 0
ClearSays t house s = ChangesTo (clear_refusal t house s) (put_in s cleared t) t

-- RULES, Houses: where the slot's coefficients stand, how many they are, and its four widths
pub record UseSays (t : Table) (house s : ℕ) (widths : List ℕ) (r : Result Span Refusal) (widths' : List ℕ) : Type 0 where
  pub answer : spanned r ≡ answer_of (use_refusal t house s widths) (s * most_set_taps ∷ total (widths_in (slot_at t s)) ∷ [])
  pub output : widths' ≡ written (use_refusal t house s widths) (slot_at t s).widths widths

abbrev pub FreeSays : Table → ℕ → Result ℕ Refusal → Type 0
FreeSays t house r = counted r ≡ answer_of (free_refusal t house) (free_of house t ∷ [])
