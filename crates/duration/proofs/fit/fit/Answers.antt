use Rattle.std.proofs.Common.{◌≡◌, refl, ◌≤◌, ◌<◌, ◌∙◌, sym, subst, ℕ, arith, length}
use Rattle.std.proofs.lemmas.Bool.Decides.{nat_tests}
use Rattle.lists.proofs.Stores.{copied-whole}
use Rattle.steps.specs.Steps.{least}
use Rattle.steps.specs.Lent.{lent}
use Rattle.duration.proofs.Fits.{fit_none, fit-over, fit-shortest, fit-ends}
use Rattle.duration.proofs.fit.fit.Goals as goal

pub returns-then-is_empty : goal.returns-then-is_empty
returns-then-is_empty c = let z : length c.args.states.means.now ≡ 0 = grind (arith, nat_tests) in fit_none _ _ _ c.requires.agree z

pub returns-then-target-gt65536 : goal.returns-then-target-gt65536
returns-then-target-gt65536 c = let s : 0 < length c.args.states.means.now = grind (arith, nat_tests) in fit-over _ _ s _ c.if-target-gt65536.true

pub returns-then-target-low : goal.returns-then-target-low
returns-then-target-low c =
    let low : c.args.target ≤ least (lent c.args.states) = subst (λ (n : ℕ). c.args.target ≤ n) c.requires.low_value c.if-target-low.true in
    let s : 0 < length c.args.states.means.now = grind (arith, nat_tests) in
    let long : length c.args.work.now ≡ length c.args.states.shortest.now = c.requires.agree.workspace ∙ sym c.requires.agree.shortest in
    fit-shortest _ _ s c.if-target-gt65536.false _ low (c.copy.ensures ∙ copied-whole _ _ long)

pub returns-in_default : goal.returns-in_default
returns-in_default c =
    let above : least (lent c.args.states) < c.args.target = subst (λ (n : ℕ). n < c.args.target) c.requires.low_value c.if-target-low.false in
    let long : length c.estimate_duration.new.work ≡ length c.args.states.means.now = c.estimate_duration.auto.work ∙ c.requires.agree.workspace in
    let s : 0 < length c.args.states.means.now = grind (arith, nat_tests) in
    fit-ends _ _ s c.if-target-gt65536.false above _ _ _ _ c.requires.agree.few c.requires.agree.varis c.requires.agree.shortest long c.rho_of-rho.ensures c.estimate_duration.ensures.output c.settle.ensures _ (rw c.in_default.is refl)

pub returns : goal.returns
returns c =
    let above : least (lent c.args.states) < c.args.target = subst (λ (n : ℕ). n < c.args.target) c.requires.low_value c.if-target-low.false in
    let long : length c.estimate_duration.new.work ≡ length c.args.states.means.now = c.estimate_duration.auto.work ∙ c.requires.agree.workspace in
    let s : 0 < length c.args.states.means.now = grind (arith, nat_tests) in
    fit-ends _ _ s c.if-target-gt65536.false above _ _ _ _ c.requires.agree.few c.requires.agree.varis c.requires.agree.shortest long c.rho_of-rho.ensures c.estimate_duration.ensures.output c.settle.ensures _ (rw c.in-Some.is refl)
