use Rattle.gv.proofs.switches.conv_at.Goals as goal

pub returns-then-is_switched : goal.returns-then-is_switched
returns-then-is_switched c = rw (← c.is_switched.ensures, c.if-is_switched.true)

pub returns : goal.returns
returns c = rw (← c.is_switched.ensures, c.if-is_switched.false)
