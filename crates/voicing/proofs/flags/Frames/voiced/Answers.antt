use mathlib.Core.Path.{refl}
use native.Mathlib.Omega.{arith}
use Rattle.voicing.proofs.Passes.{passed_none, passed-all, passed-fits, passed-few, passed-next}
use Rattle.voicing.proofs.flags.Frames.voiced.Goals as goal

pub voiced_in-n-requires : goal.voiced_in-n-requires
voiced_in-n-requires c = omega (arith, passed-fits c.loop-x.invariant c.loop-x-test.true refl, c.args.self.flagged.room)

pub overflow_add-n : goal.overflow_add-n
overflow_add-n c = omega (arith, passed-few c.loop-x.invariant c.loop-x-test.true refl refl c.voiced_in-n.ensures, c.args.self.flagged.frames)

pub overflow_add-f : goal.overflow_add-f
overflow_add-f c = omega (arith, passed-fits c.loop-x.invariant c.loop-x-test.true refl, c.args.self.flagged.frames)

pub loop-x-preserved : goal.loop-x-preserved
loop-x-preserved c = passed-next c.loop-x.invariant c.loop-x-test.true refl refl c.voiced_in-n.ensures

pub returns : goal.returns
returns c = passed-all c.loop-x.invariant c.loop-x-test.false

pub loop-x-init : goal.loop-x-init
loop-x-init c = passed_none
