use Rattle.houses.proofs.Commons.{fitting, fitting-next, fitting_stop}
use Rattle.std.proofs.Common.{ap}
use Rattle.std.proofs.Common.{not}
use Rattle.houses.proofs.starting.each_row_fits.Goals as goal

pub returns-then-not-widths_fit : goal.returns-then-not-widths_fit
returns-then-not-widths_fit c =
    fitting_stop c.loop-i.invariant c.loop-i-test.true _ _ _ c.part-row.ensures.numbers c.trimmed.ensures c.widths_fit.ensures (ap not c.if-not-widths_fit.true)

pub loop-i-preserved : goal.loop-i-preserved
loop-i-preserved c =
    fitting-next c.loop-i.invariant c.loop-i-test.true _ _ _ c.part-row.ensures.numbers c.trimmed.ensures c.widths_fit.ensures (ap not c.if-not-widths_fit.false)

pub loop-i-init : goal.loop-i-init
loop-i-init c = fitting _ _ _
