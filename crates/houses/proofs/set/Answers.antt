use mathlib.Core.Path.{sym}
use Rattle.houses.specs.Slots.{table}
use Rattle.houses.proofs.Ways.{set-within}
use Rattle.houses.proofs.set.Goals as goal

pub put_set-requires : goal.put_set-requires
put_set-requires c =
    let a = c.args in
    set-within (table a.widths.now a.coefficients.now) a.house a.slot a.set_widths.now a.set_coefficients.now (sym c.in_ok-check_set.ensures)
