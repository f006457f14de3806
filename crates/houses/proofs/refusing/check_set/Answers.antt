use Rattle.houses.proofs.Ways.{set_another, set_already, set-windows, set_last}
use Rattle.std.proofs.Common.{ap}
use Rattle.std.proofs.Common.{not}
use Rattle.std.proofs.lemmas.Result.{err_from_is_err_and}
use Rattle.houses.proofs.refusing.check_set.Goals as goal

pub returns-then-not-owns : goal.returns-then-not-owns
returns-then-not-owns c = set_another _ _ _ _ c.owns.ensures _ _ (ap not c.if-not-owns.true)

pub returns-then-not-is_empty : goal.returns-then-not-is_empty
returns-then-not-is_empty c = set_already _ _ _ _ c.owns.ensures (ap not c.if-not-owns.false) _ c.is_empty.ensures _ _ (ap not c.if-not-is_empty.true)

pub returns-in_err-check : goal.returns-in_err-check
returns-in_err-check c = let p = err_from_is_err_and c.from_residual.result c.from_residual.ensures.1 in rw (p.1, p.2) (set-windows _ _ _ _ c.owns.ensures (ap not c.if-not-owns.false) _ c.is_empty.ensures _ _ (ap not c.if-not-is_empty.false) _ c.in_err-check.ensures)

pub returns : goal.returns
returns c =
    set_last _ _ _ _ c.owns.ensures (ap not c.if-not-owns.false) _ c.is_empty.ensures _ _ (ap not c.if-not-is_empty.false) _ c.in_ok-check.ensures c.check_table.ensures
