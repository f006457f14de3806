use mathlib.Core.Path.{◌≡◌}
use native.Mathlib.Omega.{arith}
use Rattle.solve.proofs.Factors.{filling-first, filling-next}
use Rattle.solve.proofs.factor_row.Goals as goal

pub loop-i-preserved : goal.loop-i-preserved
loop-i-preserved c = filling-next _ _ _ _ _ c.requires.1 _ _ _ _ c.loop-i.invariant (omega arith) c.reduced_at-x.ensures

pub returns : goal.returns
returns c = let e : c.loop-i.i ≡ c.args.w = omega arith in rw e at c.loop-i.invariant.so_far

pub loop-i-init : goal.loop-i-init
loop-i-init c = filling-first _ _ _ _ _ _ c.requires.0 c.reduced_at-d.ensures
