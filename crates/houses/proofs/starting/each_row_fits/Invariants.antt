use Rattle.houses.proofs.Commons.{Fitting}
use Rattle.houses.proofs.starting.each_row_fits.Given as goal

abbrev pub invariant-loop-i : goal.invariant-loop-i
invariant-loop-i l = Fitting l.widths l.length l.count l.i
