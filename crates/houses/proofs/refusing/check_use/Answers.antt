use Rattle.houses.proofs.Ways.{use_another, use_empty, use_short, use_narrow, use_none}
use Rattle.std.proofs.Common.{ap}
use Rattle.std.proofs.Common.{not}
use Rattle.std.proofs.lemmas.Result.{err_from_is_err_and}
use Rattle.houses.proofs.refusing.check_use.Goals as goal

pub returns-then-not-may_use : goal.returns-then-not-may_use
returns-then-not-may_use c = use_another _ _ _ _ _ c.may_use.ensures (ap not c.if-not-may_use.true)

pub returns-then-empty : goal.returns-then-empty
returns-then-empty c = use_empty _ _ _ _ _ c.may_use.ensures (ap not c.if-not-may_use.false) _ c.is_empty-empty.ensures c.if-empty.true

pub returns-in_err-check_table : goal.returns-in_err-check_table
returns-in_err-check_table c = let p = err_from_is_err_and c.from_residual.result c.from_residual.ensures.1 in rw (p.1, p.2) (use_short _ _ _ _ _ c.may_use.ensures (ap not c.if-not-may_use.false) _ c.is_empty-empty.ensures _ c.if-empty.false c.in_err-check_table.ensures)

pub returns-then-set_widths-lt-ROW : goal.returns-then-set_widths-lt-ROW
returns-then-set_widths-lt-ROW c =
    use_narrow _ _ _ _ _ c.may_use.ensures (ap not c.if-not-may_use.false) _ c.is_empty-empty.ensures c.if-empty.false c.in_ok-check_table.ensures c.if-set_widths-lt-ROW.true

pub returns : goal.returns
returns c =
    use_none _ _ _ _ _ c.may_use.ensures (ap not c.if-not-may_use.false) _ c.is_empty-empty.ensures c.if-empty.false c.in_ok-check_table.ensures c.if-set_widths-lt-ROW.false
