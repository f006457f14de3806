use native.Mathlib.Omega.{arith}
use mathlib.Core.Path.{sym}
use Rattle.model.proofs.Records.{weight-given, weight-absent}
use Rattle.model.proofs.voice.model.msd.Goals as goal

pub returns-then-lin-eq1 : goal.returns-then-lin-eq1
returns-then-lin-eq1 c = sym (weight-given _ c.if-lin-eq1.true)

pub returns : goal.returns
returns c = let lin = c.args.lin.now in sym (weight-absent lin (omega (arith, c.if-lin-eq1.false)))
