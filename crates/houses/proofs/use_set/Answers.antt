use mathlib.Core.Path.{sym}
use Rattle.houses.specs.Slots.{table}
use Rattle.houses.proofs.Ways.{use_done, use_within}
use Rattle.houses.proofs.use_set.Goals as goal

pub row-row-requires : goal.row-row-requires
row-row-requires c =
    let a = c.args in
    (use_within (table a.widths.now a.coefficients.now) a.house a.slot a.set_widths.now (sym c.in_ok-check_use.ensures)).there

pub returns : goal.returns
returns c =
    let a = c.args in
    use_done (table a.widths.now a.coefficients.now) a.house a.slot _ a.set_widths.now _ _ _ c.in_ok-check_use.ensures c.row-row.ensures c.trimmed.ensures c.total_u32.ensures c.copy.ensures
