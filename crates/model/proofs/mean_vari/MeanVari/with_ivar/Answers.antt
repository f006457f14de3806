use Rattle.model.proofs.Clamps.{tied}
use Rattle.model.proofs.mean_vari.MeanVari.with_ivar.Goals as goal

pub returns : goal.returns
returns c = rw (c.new.ensures, c.inverse.ensures, c.of-clamp.ensures, tied c.args.self.1)
