use Rattle.houses.proofs.Reading.{seek_on, seek_found, seek_none}
use Rattle.houses.proofs.slots.up_to_last.Goals as goal

pub returns-then-row-i-ne0 : goal.returns-then-row-i-ne0
returns-then-row-i-ne0 c = seek_found c.loop-i.invariant c.loop-i-test.true c.if-row-i-ne0.true

pub loop-i-preserved : goal.loop-i-preserved
loop-i-preserved c = seek_on c.loop-i.invariant c.loop-i-test.true c.if-row-i-ne0.false

pub returns : goal.returns
returns c = seek_none _ _ c.loop-i.invariant c.loop-i-test.false
