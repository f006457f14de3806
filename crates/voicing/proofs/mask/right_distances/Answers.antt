use Rattle.voicing.proofs.Distances.{counting, counting-next}
use Rattle.voicing.proofs.mask.right_distances.Goals as goal

pub loop-f-init : goal.loop-f-init
loop-f-init c = counting _ _ c.requires.1

pub loop-f-preserved : goal.loop-f-preserved
loop-f-preserved c = counting-next _ _ _ _ c.loop-f.invariant c.loop-f-test.true c.pass.ensures.distance c.pass.ensures.passed
