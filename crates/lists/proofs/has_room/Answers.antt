use Rattle.lists.proofs.Rows.{room-none, room-divided}
use Rattle.lists.proofs.has_room.Goals as goal

pub returns-then-size-eq0 : goal.returns-then-size-eq0
returns-then-size-eq0 c = room-none _ _ _ c.if-size-eq0.true

pub returns : goal.returns
returns c = room-divided _ _ _ c.if-size-eq0.false
