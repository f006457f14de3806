use Rattle.mlpg_adjust.proofs.Calls.{on_is}
use Rattle.mlpg_adjust.proofs.refusing.gv_disagrees.Goals as goal

pub returns-then-is_none : goal.returns-then-is_none
returns-then-is_none c = rw (on_is c.args.stream.gv, c.if-is_none.ensures)

pub returns : goal.returns
returns c = rw (on_is c.args.stream.gv, c.if-is_none.ensures)
