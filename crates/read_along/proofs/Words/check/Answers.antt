use Rattle.std.proofs.Common.{◌≡◌, Bool, false, ◌||◌, sym, ap, ◌∙◌, not}
use Rattle.std.proofs.lemmas.Bool.{not-true, not-false}
use Rattle.lists.specs.Flags.{is_on}
use Rattle.lists.specs.Ends.{refused}
use Rattle.read_along.specs.Promise.{label_outside}
use Rattle.read_along.proofs.Refusing.{refusing, words_5, words_1, words_0}
use Rattle.read_along.proofs.Words.check.Goals as goal
use Rattle.read_along.proofs.Words.check.Goals.{After-is_err, Else-self-is_err}

-- what is tested is whether nstate or the crate below refuses
tested : (c : After-is_err) → label_outside c.args.self.nstate || c.is_err.result ≡ label_outside c.args.self.nstate || is_on (refused c.args.below)
tested c = ap (λ (t : Bool). label_outside c.args.self.nstate || t) (c.is_err.ensures.value ∙ refusing c.args.below)

pub returns-then-self-is_err : goal.returns-then-self-is_err
returns-then-self-is_err c =
    let s = c.args.self in
    words_5 (refused c.args.below) s.labels.now s.nstate s.durations.now (sym (tested (goal.at.returns-then-self-is_err c).After-is_err) ∙ c.if-self-is_err.true)

-- neither does
none : (c : Else-self-is_err) → label_outside c.args.self.nstate || is_on (refused c.args.below) ≡ false
none c = sym (ap (λ (t : Bool). label_outside c.args.self.nstate || t) (c.is_err.ensures.value ∙ refusing c.args.below)) ∙ c.if-self-is_err.false

pub returns-then-not-agree : goal.returns-then-not-agree
returns-then-not-agree c =
    let s = c.args.self in
    words_1 (refused c.args.below) s.labels.now s.nstate s.durations.now (none (goal.at.returns-then-not-agree c).Else-self-is_err) (sym c.agree.ensures ∙ not-true _ (ap not c.if-not-agree.true))

pub returns : goal.returns
returns c =
    let s = c.args.self in
    words_0 (refused c.args.below) s.labels.now s.nstate s.durations.now (none (goal.at.returns c).Else-self-is_err) (sym c.agree.ensures ∙ not-false _ (ap not c.if-not-agree.false))
