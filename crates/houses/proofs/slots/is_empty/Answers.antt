use Rattle.houses.proofs.Reading.{empty_is}
use Rattle.houses.proofs.slots.is_empty.Goals as goal

pub returns : goal.returns
returns c =
    let a = c.args in
    empty_is a.table.widths.now a.table.coefficients.now a.slot _ _ _ _ _ _ _ c.row.ensures c.trimmed-own.ensures c.part-taps.ensures.numbers c.total_u32-count.ensures c.part.ensures.numbers c.check.ensures c.is_err.ensures.value
