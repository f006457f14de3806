use mathlib.Core.Path.{sym, ◌∙◌}
use native.Mathlib.Omega.{arith}
use borrow.Author.Rules.{rules}
use lib.ListN.{length}
use Rattle.steps.specs.Steps.{States, states}
use Rattle.steps.specs.Inner.Asked.{Ready, Aim}
use Rattle.steps.proofs.Door.{lists-fit, settles_none, settles_low, settles_over, ready, aimed, settles_all}
use Rattle.std.proofs.Common.{ap}
use Rattle.std.proofs.Common.{not}
use Rattle.steps.proofs.settle.Goals as goal
use Rattle.steps.proofs.settle.Goals.{Else-not-in_reach, Else-totals-gt65536}

pub returns-then-not-fit_together : goal.returns-then-not-fit_together
returns-then-not-fit_together c = settles_none _ _ _ _ _ c.fit_together.ensures (ap not c.if-not-fit_together.true)

pub totals_of-totals-requires : goal.totals_of-totals-requires
totals_of-totals-requires c =
    let a = c.args in
    let f = lists-fit (length a.means.now) (length a.varis.now) (length a.shortest.now) (length a.work.now) _ c.fit_together.ensures (ap not c.if-not-fit_together.false) in
    (f.shortest ∙ sym f.work, omega (arith, f.work, f.few))

pub returns-then-not-in_reach : goal.returns-then-not-in_reach
returns-then-not-in_reach c =
    settles_low _ _ _ _ _ c.fit_together.ensures (ap not c.if-not-fit_together.false) _ _ c.totals_of-totals.ensures.0 c.totals_of-totals.ensures.1 _ c.in_reach.ensures (ap not c.if-not-in_reach.true)

-- the target is in reach
module _ (c : Else-not-in_reach) where
  abbrev all : States
  all = states c.args.means.now c.args.varis.now c.args.shortest.now

pub returns-then-totals-gt65536 : goal.returns-then-totals-gt65536
returns-then-totals-gt65536 c =
    settles_over _ _ _ _ _ c.fit_together.ensures (ap not c.if-not-fit_together.false) _ _ c.totals_of-totals.ensures.0 c.totals_of-totals.ensures.1 _ c.in_reach.ensures (ap not c.if-not-in_reach.false) c.if-totals-gt65536.true

-- with a total that is not too large
module _ (c : Else-totals-gt65536) where
  abbrev reached : Else-not-in_reach
  reached = record { before = c.before.before.before; type_inv = search rules }

  is-ready : Ready (all reached) c.args.work.now
  is-ready =
      let a = c.args in
      ready a.rho a.target (all reached) a.work.now _ c.fit_together.ensures (ap not c.if-not-fit_together.false) _ _ c.totals_of-totals.ensures.0 c.totals_of-totals.ensures.1 _ c.in_reach.ensures (ap not c.if-not-in_reach.false) c.if-totals-gt65536.false

  is-aimed : Aim (all reached) c.args.work.now c.totals_of-totals.result.work c.args.target
  is-aimed =
      let a = c.args in
      aimed a.rho a.target (all reached) a.work.now _ c.fit_together.ensures (ap not c.if-not-fit_together.false) _ _ c.totals_of-totals.ensures.0 c.totals_of-totals.ensures.1 _ c.in_reach.ensures (ap not c.if-not-in_reach.false) c.if-totals-gt65536.false

pub settle_from-requires : goal.settle_from-requires
settle_from-requires c = record { ready = is-ready (goal.at.settle_from-requires c).Else-totals-gt65536; aim = is-aimed (goal.at.settle_from-requires c).Else-totals-gt65536 }

pub returns : goal.returns
returns c =
    let a = c.args in
    settles_all a.rho a.target (all (goal.at.returns c).Else-not-in_reach) a.work.now _ c.fit_together.ensures (ap not c.if-not-fit_together.false) _ _ c.totals_of-totals.ensures.0 c.totals_of-totals.ensures.1 _ c.in_reach.ensures (ap not c.if-not-in_reach.false) c.if-totals-gt65536.false _ _ c.settle_from.ensures
