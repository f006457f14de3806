use Rattle.voicing.proofs.Runs.{pair_put}
use Rattle.voicing.proofs.closing.put_pair.Goals as goal

pub returns : goal.returns
returns c = pair_put c.args.region.now _ _ _ _ c.args.e _ _ c.requires.0 c.requires.1 c.fill.ensures c.fill_ivars.ensures
