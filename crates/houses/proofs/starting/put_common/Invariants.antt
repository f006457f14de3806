use Rattle.houses.proofs.Commons.{Starting}
use Rattle.houses.proofs.starting.put_common.Given as goal

abbrev pub invariant-loop-slot : goal.invariant-loop-slot
invariant-loop-slot l = Starting l.length l.common.widths.now l.common.coefficients.now l.initial.widths l.widths l.initial.coefficients l.coefficients l.slot
