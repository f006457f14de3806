use Rattle.steps.proofs.Packs.{puts_place}
use Rattle.steps.proofs.pack.put_place.Goals as goal

pub returns : goal.returns
returns c = puts_place c.args.work.now c.args.i c.args.p
