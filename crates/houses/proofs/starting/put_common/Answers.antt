use Rattle.houses.proofs.Commons.{starting, start-next, start-done}
use Rattle.houses.proofs.starting.put_common.Goals as goal

pub loop-slot-preserved : goal.loop-slot-preserved
loop-slot-preserved c =
    start-next _ _ _ c.loop-slot.invariant _ _ c.loop-slot-test.true c.put_row.ensures

pub returns : goal.returns
returns c = let p = c.requires.0 in start-done _ _ _ c.loop-slot.invariant p.enough_widths p.enough_coefficients c.loop-slot-test.false

pub loop-slot-init : goal.loop-slot-init
loop-slot-init c = starting _ _ _ _ _
