use lib.Ieee.{le, of_bits}
use Rattle.floats.proofs.Whole.{when_small}
use Rattle.floats.proofs.at_least_one.Goals as goal

pub returns : goal.returns
unfolding le of_bits
returns c = (when_small c.args.x c.if-x.false, tt)
