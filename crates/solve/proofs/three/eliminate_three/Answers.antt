use Rattle.solve.proofs.Threes.{three-forth}
use Rattle.solve.proofs.three.eliminate_three.Goals as goal

pub returns : goal.returns
returns c = three-forth c.args.p c.args.m.now c.args.t _ _ _ c.pivot_three-d.ensures c.second_three.ensures c.forward_three-g.ensures
