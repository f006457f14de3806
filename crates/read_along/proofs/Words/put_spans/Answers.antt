use Prim.Native.Nat.{◌*◌, ◌≤◌}
use native.Mathlib.Nat.{mul-le-mul}
use native.Mathlib.Omega.{arith}
use Rattle.lists.specs.Sizes.{most_frames}
use Rattle.read_along.proofs.Passes.{passing-small, scaled-done, spanning, spanning-next}
use Rattle.read_along.proofs.Words.put_spans.Goals as goal
use Rattle.read_along.proofs.Words.put_spans.Goals.{After-behind-next}

-- both frames, times the scale
products : (c : After-behind-next) → let a = c.args in
    (a.scale * c.loop-i.here.frame ≤ 5 * most_frames) × (a.scale * c.behind-next.result.frame ≤ 5 * most_frames)
products c =
    let p = c.requires in
    let s = passing-small _ _ _ c.loop-i.invariant.pass _ c.behind-next.ensures p.0 in
    (mul-le-mul p.2 s.0, mul-le-mul p.2 s.1)

pub loop-i-preserved : goal.loop-i-preserved
loop-i-preserved c =
    spanning-next _ _ _ _ _ _ _ c.loop-i.invariant c.behind-next.result c.behind-next.ensures c.loop-i-test.true _ _ (omega arith) c.put_span.ensures

pub loop-i-init : goal.loop-i-init
loop-i-init c = spanning _ _ _ _ _ _ _ _

pub overflow_mul-scale : goal.overflow_mul-scale
overflow_mul-scale c = omega (arith, (products (goal.at.overflow_mul-scale c).After-behind-next).0)

pub overflow_mul-scale-in-loop-i : goal.overflow_mul-scale-in-loop-i
overflow_mul-scale-in-loop-i c = omega (arith, (products (goal.at.overflow_mul-scale-in-loop-i c).After-behind-next).1)

pub returns : goal.returns
returns c = scaled-done _ _ _ _ c.loop-i.invariant c.loop-i-test.false
