use Rattle.gv.proofs.Switched.{bools-length}
use Rattle.gv.proofs.MlpgGlobalVariance.new.Goals as goal

pub returns : goal.returns
returns c = record {
  windows = c.from.ensures;
  width = c.from-2.ensures;
  length = c.requires;
  counted = record { frames = bools-length c.args.on.now; number = c.count_on.ensures; begin = c.first_on.ensures };
}
