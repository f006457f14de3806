use mathlib.Core.Path.{sym}
use Rattle.houses.specs.Slots.{table}
use Rattle.houses.proofs.Ways.{clear_within}
use Rattle.houses.proofs.clear.Goals as goal

pub put_set-requires : goal.put_set-requires
put_set-requires c =
    let a = c.args in
    clear_within (table a.widths.now a.coefficients.now) a.house a.slot (sym c.in_ok-check_clear.ensures)
