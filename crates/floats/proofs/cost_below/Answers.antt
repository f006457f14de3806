use mathlib.Core.Path.{◌≡◌, refl, sym, ap, ◌∙◌}
use mathlib.Core.Bool.{Bool, true, false, not, ◌&&◌}
use lib.Ieee.{Float, nan, is_nan, lt}
use Rattle.floats.specs.Order.{cost_below}
use Rattle.floats.proofs.Fields.{is-nan, no_nan}
use Rattle.floats.proofs.cost_below.Goals as goal

nan_last : (b : Float) → false ≡ cost_below nan b
unfolding cost_below is_nan
nan_last b = refl

before-nan : (a : Float) → is_nan a ≡ false → true ≡ cost_below a nan
unfolding cost_below is_nan
before-nan a h = ap (λ (k : Bool). not k && true) (sym h)

as-lt : (a b : Float) → is_nan a ≡ false → is_nan b ≡ false → lt a b ≡ cost_below a b
unfolding cost_below
as-lt a b h k = simp (h, k)

pub returns-then-a : goal.returns-then-a
returns-then-a c = nan_last c.args.b ∙ ap (λ (z : Float). cost_below z c.args.b) (sym (is-nan c.args.a c.if-a.true))

pub returns-then-b : goal.returns-then-b
returns-then-b c =
    let s = c.before.before in
    before-nan s.args.a (no_nan s.args.a c.if-a.false) ∙ ap (λ (z : Float). cost_below s.args.a z) (sym (is-nan s.args.b c.if-b.true))

pub returns : goal.returns
returns c =
    let s = c.before.before in
    as-lt s.args.a s.args.b (no_nan s.args.a c.if-a.false) (no_nan s.args.b c.if-b.false)
