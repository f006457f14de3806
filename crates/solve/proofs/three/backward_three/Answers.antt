use Rattle.solve.proofs.Threes.{three_back}
use Rattle.solve.proofs.three.backward_three.Goals as goal

pub returns : goal.returns
returns c = three_back c.args.p c.args.n c.args.m.now c.args.t c.requires.0 c.requires.1
