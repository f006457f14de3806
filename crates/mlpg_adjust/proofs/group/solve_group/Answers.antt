use Rattle.mlpg_adjust.proofs.Calls.{group-solved}
use Rattle.mlpg_adjust.proofs.group.solve_group.Goals as goal

pub returns : goal.returns
returns c =
    group-solved _ _ _ _ _ _ c.requires.0 _ c.requires.1 c.requires.2 _ c.requires.3 _ _ _ c.close_up.auto.work c.calc_rows.auto.work c.close_up.ensures c.calc_rows.ensures c.solve.ensures
