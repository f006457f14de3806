use mathlib.Core.Path.{sym, ◌∙◌}
use native.Mathlib.Omega.{arith}
use Rattle.gv.proofs.Switched.{summing_first, summing_on, summing_off, summing_done}
use Rattle.gv.proofs.switches.switched_sum.Goals as goal
use Rattle.gv.proofs.switches.switched_sum.Goals.{then-is_switched, else-is_switched}

pub loop-t-init : goal.loop-t-init
loop-t-init g c = let q = c.requires.lists in λ f k. summing_first f c.args.on.now c.args.par.now q.0 c.args.first _ q.1 q.2 (k _ _ c.term-sum.ensures)

pub loop-t-preserved : goal.loop-t-preserved
loop-t-preserved g c = let s = c.args in
    let l = c.loop-t in
    let e = c.requires.lists.0 in
    λ f k. elim c.if-is_switched.branch [
      | then-is_switched w ↦ rw w.sum-is (summing_on f s.on.now s.par.now e l.t l.sum (l.invariant f k) (sym c.is_switched.ensures ∙ w.if-is_switched.true) c.loop-t-test.true _ (k _ _ w.term-sum-then-is_switched.ensures))
      | else-is_switched w ↦ rw w.sum-is (summing_off f s.on.now s.par.now e l.t l.sum (l.invariant f k) (sym c.is_switched.ensures ∙ w.if-is_switched.false) c.loop-t-test.true)
    ]

pub returns : goal.returns
returns g c = let l = c.loop-t in λ f k. summing_done f c.args.on.now c.args.par.now c.requires.lists.0 l.t l.sum (l.invariant f k) (omega arith)
