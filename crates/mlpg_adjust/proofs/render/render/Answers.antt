use mathlib.Core.Path.{◌∙◌}
use native.Mathlib.Omega.{arith}
use Rattle.mlpg_adjust.proofs.Marks.{switches-room, ready, all-rendered}
use Rattle.mlpg_adjust.proofs.render.render.Goals as goal

pub mark_switches-requires : goal.mark_switches-requires
mark_switches-requires c =
    (c.requires.0.few, c.requires.0.frames, c.requires.1.switched, rw c.plan_of-plan.ensures.1 (switches-room _ _ _ _ _ c.requires.0 c.args.inputs.switches.now _ c.requires.4))

pub render_groups-requires : goal.render_groups-requires
render_groups-requires c =
    let p = c.plan_of-plan in
    (ready _ _ _ _ _ c.requires.0 _ _ c.requires.4 p.result p.ensures.0 _ _ p.ensures.1 c.mark_switches.ensures, rw p.ensures.0 c.requires.1.targets, c.requires.3, rw p.ensures.0 c.requires.2)

pub returns : goal.returns
returns c =
    let p = c.plan_of-plan in
    all-rendered _ _ _ _ _ c.requires.0 _ _ c.requires.4 p.result p.ensures.0 _ _ p.ensures.1 c.mark_switches.ensures c.requires.1.switched _ _ (c.render_groups.auto.out ∙ c.requires.2) c.render_groups.ensures

pub plan_of-plan-requires : goal.plan_of-plan-requires
plan_of-plan-requires c = (c.requires.0, omega (arith, c.requires.4))
