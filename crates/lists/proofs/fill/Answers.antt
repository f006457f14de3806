use Rattle.lists.proofs.Stores.{filling-next, filling-done}
use Rattle.lists.proofs.fill.Goals as goal

pub loop-i-preserved : goal.loop-i-preserved
loop-i-preserved g c = filling-next _ _ _ _ _ _ c.min-i-end.ensures c.loop-i.invariant c.loop-i-test.true

pub returns : goal.returns
returns g c = filling-done _ _ _ _ _ _ c.min-i-end.ensures c.loop-i.invariant c.loop-i-test.false
