-- A table as src/ lends it to be read.
use Rattle.houses.specs.declared.slots.Table.{Table as Lent}
use Rattle.houses.specs.Slots.{Table, table}

-- the widths and the coefficients that it lends
abbrev pub lent : Lent → Table
lent t = table t.widths.now t.coefficients.now
