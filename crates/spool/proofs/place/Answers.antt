use Rattle.std.proofs.Common.{sym, ◌∙◌}
use Rattle.spool.specs.Refusal.Laws.{place_3, place_10, place_0}
use Rattle.lists.proofs.Answers.{refused_as, accepted}
use Rattle.spool.proofs.place.Goals as goal

pub returns-then-out_of_range : goal.returns-then-out_of_range
returns-then-out_of_range c =
    let a = c.args in
    refused_as 2 _ _ (place_3 a.component a.v (sym c.out_of_range.ensures ∙ c.if-out_of_range.true))

pub returns-then-v-component : goal.returns-then-v-component
returns-then-v-component c =
    let a = c.args in
    refused_as 9 _ _ (place_10 a.component a.v (sym c.out_of_range.ensures ∙ c.if-out_of_range.false) c.if-v-component.true)

pub returns : goal.returns
returns c =
    let a = c.args in
    accepted _ _ _ (place_0 a.component a.v (sym c.out_of_range.ensures ∙ c.if-out_of_range.false) c.if-v-component.false)
    (rw (c.number_of.ensures, c.from.ensures, c.from-2.ensures, c.from-3.ensures))
