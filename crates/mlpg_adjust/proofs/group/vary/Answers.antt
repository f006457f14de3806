use mathlib.Core.Path.{◌∙◌}
use Rattle.mlpg_adjust.proofs.Calls.{gv_off, gv_on_lem, on-said}
use Rattle.mlpg_adjust.proofs.group.vary.Goals as goal

pub returns-in_default : goal.returns-in_default
returns-in_default c = gv_off _ _ _ c.in_default.is

pub vary_group-requires : goal.vary_group-requires
vary_group-requires c = (c.requires.0, c.requires.1 (on-said _ _ c.in-Some.is))

pub returns : goal.returns
returns c = c.vary_group.ensures ∙ gv_on_lem _ _ _ _ c.in-Some.is
