use Rattle.std.proofs.Common.{◌≡◌, ap, ◌∙◌, subst, ℕ, ◌≤◌, ◌<◌}
use lib.Ieee.{binary64, div}
use Rattle.lists.specs.Sizes.{most_frames}
use Rattle.lists.specs.Totals.{total}
use Rattle.floats.specs.Rounding.{rounded_of}
use Rattle.floats.specs.Numbers.{number}
use Rattle.steps.specs.Lent.{lent}
use Rattle.duration.specs.Estimate.{naturals}
use Rattle.duration.specs.Speed.{target_at}
use Rattle.duration.proofs.Fits.{speed-long, speed-one, speed-other}
use Rattle.duration.proofs.speed.fit_at.Goals as goal
use Rattle.duration.proofs.speed.fit_at.Goals.{After-estimate_duration-sum}

-- the estimates that stand in the work space
module _ (c : After-estimate_duration-sum) where
  natural : c.estimate_duration-sum.new.work ≡ naturals (lent c.args.states)
  unfolding naturals
  natural = c.estimate_duration-sum.ensures.output

  sum : c.estimate_duration-sum.result ≡ total (naturals (lent c.args.states))
  unfolding naturals
  sum = c.estimate_duration-sum.ensures.total

pub returns-then-sum-gt65536 : goal.returns-then-sum-gt65536
returns-then-sum-gt65536 c = speed-long _ _ _ (subst (λ (n : ℕ). most_frames < n) (sum (goal.at.returns-then-sum-gt65536 c).After-estimate_duration-sum) c.if-sum-gt65536.true)

pub returns-then-speed : goal.returns-then-speed
returns-then-speed c = speed-one _ _ _ (subst (λ (n : ℕ). n ≤ most_frames) (sum (goal.at.returns-then-speed c).After-estimate_duration-sum) c.if-sum-gt65536.false) c.if-speed.true (natural (goal.at.returns-then-speed c).After-estimate_duration-sum)

pub returns : goal.returns
unfolding target_at
returns c =
    speed-other _ _ _ (subst (λ (n : ℕ). n ≤ most_frames) (sum (goal.at.returns c).After-estimate_duration-sum) c.if-sum-gt65536.false) _ _ c.if-speed.false
    (c.rounded-target.ensures ∙ ap (λ (n : ℕ). rounded_of (div binary64 (number n) c.args.speed)) (sum (goal.at.returns c).After-estimate_duration-sum)) c.fit.ensures
