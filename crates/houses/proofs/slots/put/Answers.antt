use Rattle.lists.proofs.Rows.{row_fits}
use native.Mathlib.Omega.{arith}
use Rattle.houses.proofs.Filling.{padded-put}
use Rattle.houses.proofs.slots.put.Goals as goal

pub returns : goal.returns
returns g c =
    padded-put _ _ _ _ _ c.args.size _ _ c.min-count.ensures (omega (arith, c.requires.1, row_fits c.args.size c.args.slot 12 c.requires.0)) c.copy.ensures c.fill.ensures
