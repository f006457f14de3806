use mathlib.Core.Path.{refl}
use native.Mathlib.Omega.{arith}
use Rattle.region.proofs.Lanes.{stepped_lent}
use Rattle.gv.proofs.MlpgGlobalVariance.parmgen_each.Goals as goal

pub loop-l-preserved : goal.loop-l-preserved
loop-l-preserved c = let l = c.loop-l in
    stepped_lent _ _ _ _ _ _ _ _ c.loop-l-test.true (omega (arith, c.requires.3, l.invariant.long)) l.invariant refl c.parmgen.auto.m c.parmgen.ensures
