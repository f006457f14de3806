use Rattle.houses.proofs.Ways.{free_nobody, free-last}
use Rattle.std.proofs.Common.{ap}
use Rattle.std.proofs.Common.{not}
use Rattle.houses.proofs.refusing.check_free.Goals as goal

pub returns-then-not-is_house : goal.returns-then-not-is_house
returns-then-not-is_house c = free_nobody _ _ _ c.is_house.ensures (ap not c.if-not-is_house.true)

pub returns : goal.returns
returns c = free-last _ _ _ c.is_house.ensures _ (ap not c.if-not-is_house.false) c.check_table.ensures
