use mathlib.Core.Path.{refl, ◌∙◌}
use native.Mathlib.Nat.{mul-le-mul_left}
use native.Mathlib.Omega.{arith}
use lib.ListN.{length}
use Rattle.gv.proofs.Grading.{graded-next}
use Rattle.gv.proofs.gradient.grade_rows.Goals as goal

pub add_row-sum-requires : goal.add_row-sum-requires
add_row-sum-requires g c = omega (arith, c.requires.places, c.loop-t.invariant.0, mul-le-mul_left c.args.n c.requires.places.0)

pub loop-t-preserved : goal.loop-t-preserved
loop-t-preserved g c =
    let s = c.args in
    let q = c.requires.places in
    let l = c.loop-t in
    let r = c.add_row-sum in
    (r.auto.m ∙ l.invariant.0, λ d e k. graded-next s.p s.n s.w (length s.m.now) q.0 q.1 s.weight d l.m _ l.t l.sum _ _ (omega arith) (e _ _ _ c.f-g.ensures) r.ensures.0 r.ensures.1 (l.invariant.1 d e k))

pub loop-t-init : goal.loop-t-init
loop-t-init g c = (refl, λ d e k. k)
