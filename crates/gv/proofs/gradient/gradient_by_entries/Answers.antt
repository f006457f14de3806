use mathlib.Core.Path.{◌≡◌}
use native.Mathlib.Nat.{add-zero}
use native.Mathlib.Omega.{arith}
use Rattle.lists.specs.Build.{over}
use Rattle.gv.specs.Gv.{gradient_at}
use Rattle.gv.proofs.Grading.{beside-next}
use Rattle.gv.proofs.gradient.gradient_by_entries.Goals as goal

pub loop-i-init : goal.loop-i-init
unfolding over
loop-i-init c = rw add-zero

pub loop-i-preserved : goal.loop-i-preserved
loop-i-preserved c =
    let s = c.args in
    let l = c.loop-i in
    beside-next s.w s.wuw.now s.par.now s.t l.i l.g _ _ _ (omega arith) l.invariant c.add_ahead.ensures c.add_behind-g.ensures

pub returns : goal.returns
unfolding gradient_at
returns c = let e : c.loop-i.i ≡ c.args.w = omega arith in rw e at c.loop-i.invariant
