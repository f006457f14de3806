use Rattle.voicing.proofs.Distances.{measured, measuring-next}
use Rattle.voicing.proofs.mask.left_distances.Goals as goal

pub loop-f-preserved : goal.loop-f-preserved
loop-f-preserved c = measuring-next _ _ _ _ c.loop-f.invariant c.loop-f-test.true c.pass.ensures.distance c.pass.ensures.passed

pub returns : goal.returns
returns c = measured _ _ _ _ c.loop-f.invariant c.loop-f-test.false
