use mathlib.Core.Path.{◌≡◌, sym, ap, ◌∙◌}
use Prim.Native.Nat.{ℕ, ◌+◌}
use Rattle.lists.proofs.Chosen.{counting, counted, one-here, none_here}
use Rattle.houses.specs.Slots.{table, slot_at, is_empty, first_own}
use Rattle.houses.proofs.Reading.{free_all}
use Rattle.houses.proofs.slots.free_of.Goals as goal
use Rattle.houses.proofs.slots.free_of.Goals.{After-is_empty, then-is_empty, else-is_empty}

-- what was seen of the slot
module _ (c : After-is_empty) where
  empty : c.is_empty.result ≡ is_empty (slot_at (table c.args.table.widths.now c.args.table.coefficients.now) (first_own c.args.house + c.loop-i.i))
  empty = c.is_empty.ensures ∙ ap (λ (n : ℕ). is_empty (slot_at (table c.args.table.widths.now c.args.table.coefficients.now) (n + c.loop-i.i))) c.loop-i.invariant.1

pub loop-i-preserved : goal.loop-i-preserved
loop-i-preserved c =
    let v = c.loop-i.invariant in
    let e = empty (goal.at.loop-i-preserved c).After-is_empty in
    elim c.if-is_empty.branch [
      | then-is_empty w ↦ (v.0, v.1, rw w.free-is (one-here v.2 c.loop-i-test.true (sym e ∙ w.if-is_empty.true)))
      | else-is_empty w ↦ (v.0, v.1, rw w.free-is (none_here v.2 c.loop-i-test.true (sym e ∙ w.if-is_empty.false)))
    ]

pub loop-i-init : goal.loop-i-init
loop-i-init c = (c.requires, c.first_own-first.ensures, counting _ _)

pub returns : goal.returns
returns c = free_all _ _ _ (counted c.loop-i.invariant.2 c.loop-i-test.false)
