use Rattle.std.proofs.Common.{ap, sym, ◌∙◌}
use Rattle.replay.proofs.Held.{too_long, agreed-more, disagreed, agreed-all}
use Rattle.replay.proofs.compare.holds.Goals as goal

pub returns-then-s-right : goal.returns-then-s-right
returns-then-s-right g c = too_long g.T.Numbered.number_of _ _ _ c.if-s-right.true

pub returns-then-number : goal.returns-then-number
returns-then-number g c =
    let f = g.T.Numbered.number_of in
    disagreed f _ c.loop-i.invariant _ c.loop-i-test.true
    (λ e. c.if-number.true (c.number.ensures ∙ ap f c.index-s-i.is ∙ e ∙ sym (ap f c.at.ensures) ∙ sym c.number-in-loop-i.ensures))

pub loop-i-preserved : goal.loop-i-preserved
loop-i-preserved g c =
    let f = g.T.Numbered.number_of in
    agreed-more f _ c.loop-i.invariant _ c.loop-i-test.true
    (sym (ap f c.index-s-i.is) ∙ sym c.number.ensures ∙ c.if-number.false ∙ c.number-in-loop-i.ensures ∙ ap f c.at.ensures)

pub returns : goal.returns
returns g c = agreed-all g.T.Numbered.number_of _ c.loop-i.invariant c.loop-i-test.false
