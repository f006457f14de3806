-- A slot when it is set or cleared, and the table when it is started.
use Rattle.std.specs.Prelude.{◌≡◌, List, [], ◌++◌, ℕ, ◌*◌, ◌/◌, ◌<◌, length, take, drop, replicate, Float}
use Rattle.std.proofs.lemmas.List.Edits.{sets}
use Rattle.lists.specs.Build.{rows}
use Rattle.lists.specs.Parts.{part}
use Rattle.lists.specs.Sizes.{most_windows, most_set_taps, slot_count}
use Rattle.lists.specs.Totals.{total}
use Rattle.floats.specs.Numbers.{nought}
use Rattle.houses.specs.Slots.{Table, table, Slot, slot, trimmed}

-- n numbers: these, and z behind them
abbrev pub padded : {A : Type 0} → ℕ → A → List A → List A
padded n z xs = take n (xs ++ replicate n z)

-- RULES, Houses: a slot that is set has zeros behind its widths and behind its coefficients
abbrev pub holding : List ℕ → List Float → Slot
holding widths coefficients = slot (padded most_windows 0 widths) (padded most_set_taps nought coefficients)

-- RULES, Houses: a slot that start or clear has left empty has zeros alone
abbrev pub cleared : Slot
cleared = holding [] []

-- a slot becomes this, and no other changes
unfoldable pub put_in : ℕ → Slot → Table → Table
put_in s x t = table (sets t.widths (s * most_windows) x.widths) (sets t.coefficients (s * most_set_taps) x.coefficients)

-- RULES, Houses: the widths of the common sets come in rows of one length, one row for each set
abbrev pub row_length : ℕ → List ℕ → ℕ
row_length common widths = length widths / common

abbrev pub row_of : ℕ → List ℕ → ℕ → List ℕ
row_of n widths i = part (i * n) n widths

-- RULES, Houses: and the coefficients window after window, set after set
abbrev pub taps_of : ℕ → List ℕ → List Float → ℕ → List Float
taps_of n widths coefficients i = part (total (take (i * n) widths)) (total (row_of n widths i)) coefficients

-- RULES, Houses: set i goes into slot i; past the last set a row has no number
abbrev pub common_slot : ℕ → List ℕ → List Float → ℕ → Slot
common_slot n widths coefficients i = holding (row_of n widths i) (taps_of n widths coefficients i)

-- RULES, Houses: every slot is set or empty by that, whatever stood there
unfoldable pub started : ℕ → List ℕ → List Float → Table → Table
started n widths coefficients t =
    table
    (rows (λ i. (common_slot n widths coefficients i).widths) slot_count ++ drop (slot_count * most_windows) t.widths)
    (rows (λ i. (common_slot n widths coefficients i).coefficients) slot_count ++ drop (slot_count * most_set_taps) t.coefficients)

-- the same sets, in rows of any lengths
abbrev pub SameSets : ℕ → List ℕ → List ℕ → Type 0
SameSets common ws vs = (i : ℕ) → i < common → trimmed (row_of (row_length common ws) ws i) ≡ trimmed (row_of (row_length common vs) vs i)

-- the same behind the twelve slots, in both lists
abbrev pub SameBehind : Table → Table → Type 0
SameBehind t u = (drop (slot_count * most_windows) t.widths ≡ drop (slot_count * most_windows) u.widths) × (drop (slot_count * most_set_taps) t.coefficients ≡ drop (slot_count * most_set_taps) u.coefficients)
