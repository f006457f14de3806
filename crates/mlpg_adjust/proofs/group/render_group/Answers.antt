use mathlib.Core.Path.{◌∙◌}
use Rattle.mlpg_adjust.proofs.Calls.{varying, group_columned}
use Rattle.mlpg_adjust.proofs.Keeping.{closed-keeps, rowed-keeps, done-keeps, target_keeps}
use Rattle.mlpg_adjust.proofs.group.render_group.Goals as goal

pub vary-requires : goal.vary-requires
vary-requires c =
    (varying _ _ _ _ _ _ c.requires.0 c.args.c c.requires.2 c.requires.3 c.solve_group.new.work (rw c.solve_group.auto.work c.requires.4), c.requires.1)

pub returns : goal.returns
returns c =
    let a = c.args in
    λ col. group_columned a.p a.inputs.widths.now a.inputs.coefficients.now a.inputs.records.now a.inputs.durations.now a.marks.now a.inputs.gv.now c.requires.0 a.c c.requires.2 c.requires.3 _ c.requires.4
    (closed-keeps a.p.stream a.inputs.widths.now a.inputs.coefficients.now a.inputs.records.now a.inputs.durations.now a.c.first a.c.lanes) (rowed-keeps a.p.stream a.inputs.widths.now a.inputs.coefficients.now a.inputs.records.now a.inputs.durations.now a.c.first a.c.lanes) (done-keeps a.p.stream a.inputs.widths.now a.inputs.coefficients.now a.inputs.records.now a.inputs.durations.now a.c.first a.c.lanes) (target_keeps a.p.stream a.inputs.widths.now a.inputs.coefficients.now a.inputs.records.now a.inputs.durations.now a.c.first a.c.lanes a.inputs.gv.now)
    _ _ _ _ c.solve_group.ensures c.vary.ensures (c.vary.auto.work ∙ c.solve_group.auto.work) c.requires.5 c.fill_back.ensures col
