use Rattle.std.proofs.Common.{ℕ, ◌+◌, sym, ap, ◌∙◌, arith, rules, get_or}
use Rattle.lists.specs.Totals.{total}
use Rattle.lists.proofs.Sums.{total-more}
use Rattle.steps.proofs.totals_of.Goals as goal

pub loop-i-init : goal.loop-i-init
unfolding total
loop-i-init c = search rules

pub loop-i-preserved : goal.loop-i-preserved
loop-i-preserved c =
    let l = c.loop-i in
    let ls = c.args.shortest.now in
    let ds = c.args.work.now in
    record {
      least = rw c.from-least.ensures (ap (λ (k : ℕ). k + get_or ls l.i 0) l.invariant.least ∙ sym (total-more ls l.i (omega (arith, c.requires.0, c.loop-i-test.true))));
      sum = rw c.from-sum.ensures (ap (λ (k : ℕ). k + get_or ds l.i 0) l.invariant.sum ∙ sym (total-more ds l.i c.loop-i-test.true));
      small_least = omega (arith, l.invariant.small_least);
      small_sum = omega (arith, l.invariant.small_sum);
    }
