use Rattle.gv.specs.Gv.{conv_gv}
use Rattle.gv.proofs.Switched.{sampled}
use Rattle.gv.proofs.MlpgGlobalVariance.conv_gv.Goals as goal

pub rescale-requires : goal.rescale-requires
rescale-requires c = (sampled c.args.on.now c.args.self _ c.requires).0

pub returns : goal.returns
unfolding conv_gv
returns c = let m = c.calc_gv-m.ensures in rw (c.sqrt-ratio.ensures, m.1, m.0) at c.rescale.ensures
