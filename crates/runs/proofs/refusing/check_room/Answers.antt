use Rattle.runs.proofs.refusing.check_room.Goals as goal

pub returns-then-numbers-floats : goal.returns-then-numbers-floats
returns-then-numbers-floats c = rw (← c.has_room-numbers.ensures, ← c.has_room-floats.ensures, ← c.has_room-counts.ensures, c.if-numbers-floats.true)

pub returns : goal.returns
returns c = rw (← c.has_room-numbers.ensures, ← c.has_room-floats.ensures, ← c.has_room-counts.ensures, c.if-numbers-floats.false)
