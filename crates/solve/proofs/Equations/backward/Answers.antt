use mathlib.Core.Path.{◌≡◌}
use Prim.Native.Nat.{◌+◌, ◌-◌}
use native.Mathlib.Omega.{arith}
use borrow.Author.Rules.{rules}
use Rattle.region.proofs.Across.{across_as}
use Rattle.solve.proofs.Standings.{back_none, back-next}
use Rattle.solve.proofs.Equations.backward.Goals as goal

pub loop-t-init : goal.loop-t-init
loop-t-init c = back_none _ _ _ _ _ c.requires.1 _ c.requires.2

pub loop-t-preserved : goal.loop-t-preserved
loop-t-preserved c = let t = c.loop-t.t in
    let s = c.requires in
    let e : t ≡ t - 1 + 1 = omega arith in
    back-next _ _ _ _ _ s.1 _ s.2 _ _ _ (omega arith) (rw e at c.loop-t.invariant) (across_as c.each_lane.ensures (λ l h k. search rules))
