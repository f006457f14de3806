use mathlib.Core.Path.{◌∙◌}
use Rattle.mlpg_adjust.proofs.Calls.{gv_off, gv_on_lem, on-said}
use Rattle.mlpg_adjust.proofs.Marks.{switches-written}
use Rattle.mlpg_adjust.proofs.render.mark_switches.Goals as goal

pub returns-in_default : goal.returns-in_default
returns-in_default c = gv_off _ _ _ c.in_default.is

pub returns : goal.returns
returns c =
    let e = c.in-Some.is in
    switches-written _ _ _ _ c.requires.0 c.requires.1 (c.requires.2 (on-said _ _ e)) c.requires.3 c.mark_switches.ensures ∙ gv_on_lem _ _ _ _ e
