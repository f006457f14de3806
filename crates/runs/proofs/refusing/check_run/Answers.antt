use Rattle.std.proofs.lemmas.Result.{err_from_is_err_and}
use Rattle.lists.proofs.Ends.{stops}
use Rattle.runs.proofs.refusing.check_run.Goals as goal

pub returns-in_err-check_room : goal.returns-in_err-check_room
returns-in_err-check_room c = let p = err_from_is_err_and c.from_residual.result c.from_residual.ensures.1 in rw (p.1, p.2) (stops _ _ _ c.in_err-check_room.ensures)

pub returns : goal.returns
returns c = rw (← c.in_ok-check_room.ensures) c.check_found.ensures
