use mathlib.Core.Path.{sym, ◌∙◌}
use Rattle.steps.proofs.costs.sooner_of.Goals as goal

pub returns-then-is_sooner : goal.returns-then-is_sooner
returns-then-is_sooner c = rw (sym c.is_sooner.ensures ∙ c.if-is_sooner.true)

pub returns : goal.returns
returns c = rw (sym c.is_sooner.ensures ∙ c.if-is_sooner.false)
