use mathlib.Core.Path.{◌≡◌}
use Prim.Native.Nat.{◌+◌, ◌<◌}
use Rattle.lists.specs.Sizes.{house_count, most_own}
use Rattle.lists.proofs.Chosen.{Counting}
use Rattle.houses.specs.Slots.{table, slot_at, is_empty, first_own}
use Rattle.houses.proofs.slots.free_of.Given as goal

abbrev pub invariant-loop-i : goal.invariant-loop-i
invariant-loop-i l = (l.house < house_count) × (l.first ≡ first_own l.house) × Counting (λ j. is_empty (slot_at (table l.table.widths.now l.table.coefficients.now) (first_own l.house + j))) most_own l.free l.i
