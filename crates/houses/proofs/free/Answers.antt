use mathlib.Core.Path.{sym}
use Rattle.houses.proofs.Ways.{free-house}
use Rattle.houses.proofs.free.Goals as goal

pub free_of-requires : goal.free_of-requires
free_of-requires c = free-house _ _ (sym c.in_ok-check_free.ensures)
