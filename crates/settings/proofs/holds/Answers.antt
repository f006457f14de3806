use Rattle.settings.proofs.Holding.{holds_is}
use Rattle.settings.proofs.holds.Goals as goal

pub returns : goal.returns
returns c = holds_is c.args.voices.now _ _ c.requires c.first_u32.ensures
