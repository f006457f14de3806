use mathlib.Core.Path.{sym}
use native.Mathlib.Omega.{arith}
use Rattle.houses.proofs.Accepting.{start-accepted}
use Rattle.houses.specs.Slots.{table}
use Rattle.houses.proofs.Ways.{long-table}
use Rattle.houses.proofs.start.Goals as goal

pub put_common-requires : goal.put_common-requires
put_common-requires c =
    let a = c.args in
    let p = start-accepted (table a.widths.now a.coefficients.now) a.common a.common_widths.now a.common_coefficients.now (sym c.in_ok-check_start.ensures) in
    (long-table (table a.widths.now a.coefficients.now) p.room, omega (arith, c.row_length-length.ensures, p.narrow))
