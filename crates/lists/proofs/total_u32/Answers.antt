use Rattle.std.proofs.Common.{◌≡◌, refl, sym, ap, ◌∙◌, ℕ, ◌+◌, ◌^◌, min, length, take, get_or, arith}
use Rattle.std.proofs.Math.Seq.{length-take-le, take_all, get_or-take}
use Rattle.lists.specs.Totals.{total}
use Rattle.lists.proofs.Sums.{total-more}
use Rattle.lists.proofs.Parts.{take_min}
use Rattle.lists.proofs.total_u32.Goals as goal

pub loop-x-init : goal.loop-x-init
unfolding total
loop-x-init c = (refl, omega arith)

pub loop-x-preserved : goal.loop-x-preserved
loop-x-preserved c =
    let l = c.loop-x in
    let s = c.args.s.now in
    let k : length (take c.min.result s) ≡ c.min.result = length-take-le c.min.result s (omega (arith, c.min.ensures)) in
    let x : c.from-sum.result ≡ get_or s l.x-index 0 = c.from-sum.ensures ∙ get_or-take c.min.result s l.x-index 0 (omega (arith, c.loop-x-test.true)) in
    (ap (λ (n : ℕ). n + c.from-sum.result) l.invariant.0 ∙ rw c.from-sum.ensures (sym (total-more (take c.min.result s) l.x-index c.loop-x-test.true)), omega (arith, l.invariant.1, c.type_inv.s l.x-index))

pub returns : goal.returns
returns c =
    let l = c.loop-x in
    let s = c.args.s.now in
    let e : c.min.result ≡ min (2 ^ 32) (length s) = omega (arith, c.min.ensures) in
    l.invariant.0 ∙ ap total (take_all l.x-index (take c.min.result s) c.loop-x-test.false ∙ ap (λ (k : ℕ). take k s) e ∙ take_min (2 ^ 32) s)
