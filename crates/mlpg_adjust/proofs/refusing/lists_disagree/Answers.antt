use mathlib.Core.Path.{◌∙◌}
use Prim.Native.Nat.{◌≤◌}
use native.Mathlib.Nat.{mul-le-mul_left}
use native.Mathlib.Omega.{arith}
use Rattle.mlpg_adjust.proofs.Ways.{size_small, disagree-taps, disagree-records, disagree-rest}
use Rattle.mlpg_adjust.proofs.refusing.lists_disagree.Goals as goal

pub returns-then-coefficients-total_u32 : goal.returns-then-coefficients-total_u32
returns-then-coefficients-total_u32 c = disagree-taps _ _ c.requires.1 _ _ _ _ c.total_u32.ensures c.if-coefficients-total_u32.true

pub overflow_mul-states : goal.overflow_mul-states
overflow_mul-states c =
    let a = c.args in
    let p = c.requires in
    let m : c.record_size.result ≤ 513 = rw c.record_size.ensures (size_small _ _ a.stream.masked p.0 p.1) in
    omega (arith, p.2, mul-le-mul_left a.states m)

pub returns-then-n-states : goal.returns-then-n-states
returns-then-n-states c =
    disagree-records _ _ c.requires.1 _ _ _ _ c.total_u32.ensures c.if-coefficients-total_u32.false _ c.record_size.ensures c.if-n-states.true

pub returns : goal.returns
returns c =
    c.gv_disagrees.ensures ∙ disagree-rest _ _ c.requires.1 _ _ _ _ c.total_u32.ensures c.if-coefficients-total_u32.false _ c.record_size.ensures c.if-n-states.false
