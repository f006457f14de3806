use Rattle.std.proofs.Common.{◌≡◌, ap, ◌∙◌, arith, ℕ, List, ◌++◌, take}
use borrow.Rule.Slice.PartMut.{Post-is}
use Rattle.lists.specs.Totals.{total}
use Rattle.steps.specs.Steps.{States}
use Rattle.steps.specs.Lent.{lent}
use Rattle.duration.specs.Estimate.{naturals}
use Rattle.duration.specs.Align.{Group, tail, states_in}
use Rattle.duration.proofs.Closing.{tail_none, tail-long, tail-fits}
use Rattle.duration.proofs.align.close_tail.Goals as goal
use Rattle.duration.proofs.align.close_tail.Goals.{After-estimate_duration-sum}

-- the estimates in their place
module _ (c : After-estimate_duration-sum) where
  abbrev group : Group
  group = tail c.args.from c.args.to

  abbrev durations : List ℕ
  durations = naturals (states_in group (lent c.args.states))

  abbrev W : List ℕ
  W = c.estimate_duration-sum.new.work

  natural : W ≡ durations
  unfolding naturals
  natural = c.estimate_duration-sum.ensures.output ∙ ap (λ (ss : States). naturals ss) c.part.ensures

  sum : c.estimate_duration-sum.result ≡ total durations
  unfolding naturals
  sum = c.estimate_duration-sum.ensures.total ∙ ap (λ (ss : States). total (naturals ss)) c.part.ensures

pub returns-then-from-to : goal.returns-then-from-to
returns-then-from-to c = tail_none _ _ _ _ _ _ c.if-from-to.true c.requires.few

pub returns-then-sum-from : goal.returns-then-sum-from
returns-then-sum-from c = tail-long _ _ _ _ _ _ _ (omega (arith, c.if-sum-from.true, sum (goal.at.returns-then-sum-from c).After-estimate_duration-sum, c.requires.few))

pub returns : goal.returns
returns c =
    let a = c.args in
    tail-fits _ _ _ _ _ _ (omega (arith, c.if-sum-from.false, sum (goal.at.returns c).After-estimate_duration-sum, c.requires.few)) (W (goal.at.returns c).After-estimate_duration-sum) _ (natural (goal.at.returns c).After-estimate_duration-sum)
    (ap (λ (l : List ℕ). take a.from a.work.now ++ (W (goal.at.returns c).After-estimate_duration-sum ++ l)) (Post-is a.from a.to a.work.now c.requires.order))
