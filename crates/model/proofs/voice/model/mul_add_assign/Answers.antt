use Rattle.model.proofs.Promises.{mul-add_done}
use Rattle.model.proofs.voice.model.mul_add_assign.Goals as goal

pub returns : goal.returns
returns c = let a = c.before.before.before.before.before.before.before in mul-add_done _ _ _ _ _ _ a.add_scaled.ensures a.add_scaled-2.ensures c.add_scaled-3.ensures
