use Rattle.houses.proofs.Ways.{clear_another, clear_empty, clear_last}
use Rattle.std.proofs.Common.{ap}
use Rattle.std.proofs.Common.{not}
use Rattle.houses.proofs.refusing.check_clear.Goals as goal

pub returns-then-not-owns : goal.returns-then-not-owns
returns-then-not-owns c = clear_another _ _ _ _ c.owns.ensures (ap not c.if-not-owns.true)

pub returns-then-is_empty : goal.returns-then-is_empty
returns-then-is_empty c = clear_empty _ _ _ _ c.owns.ensures (ap not c.if-not-owns.false) _ c.is_empty.ensures c.if-is_empty.true

pub returns : goal.returns
returns c = clear_last _ _ _ _ c.owns.ensures (ap not c.if-not-owns.false) _ c.is_empty.ensures _ c.if-is_empty.false c.check_table.ensures
