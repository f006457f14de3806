use Rattle.mlpg_adjust.proofs.Calls.{group-varied}
use Rattle.mlpg_adjust.proofs.group.vary_group.Goals as goal

pub returns : goal.returns
returns c = group-varied _ _ _ _ _ _ c.requires.0 c.requires.1 _ c.vary.ensures
