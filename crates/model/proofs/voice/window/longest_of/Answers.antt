use Rattle.std.proofs.Common.{◌≡◌, max, get_or, arith, refl, sym, ◌∙◌}
use Rattle.std.proofs.lemmas.Bool.Decides.{nat_tests}
use Rattle.lists.proofs.Sums.{fold_more, fold_done}
use Rattle.model.specs.Windows.{longest}
use Rattle.model.proofs.voice.window.longest_of.Goals as goal

pub loop-width-init : goal.loop-width-init
unfolding longest
loop-width-init c = refl

pub loop-width-preserved : goal.loop-width-preserved
loop-width-preserved c =
    let l = c.loop-width in
    let e : c.max-found.result ≡ max l.found (get_or c.args.widths.now l.width-index 0) = grind (arith, nat_tests) in
    rw e (fold_more max l.found _ l.width-index 0 c.loop-width-test.true ∙ l.invariant)

pub returns : goal.returns
returns c = let l = c.loop-width in sym (fold_done max l.found _ l.width-index c.loop-width-test.false) ∙ l.invariant
