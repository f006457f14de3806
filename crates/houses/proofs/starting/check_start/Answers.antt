use Rattle.houses.proofs.Commons.{start-many, start-rows, start_infinite, start-disagree, start-last}
use Rattle.std.proofs.Common.{ap}
use Rattle.std.proofs.Common.{not}
use Rattle.houses.proofs.starting.check_start.Goals as goal

pub returns-then-not-all_finite : goal.returns-then-not-all_finite
returns-then-not-all_finite c =
    start_infinite _ _ _ _ c.if-common-gt-COMMON.false _ c.rows_fit.ensures (ap not c.if-not-rows_fit.false) _ c.all_finite.ensures (ap not c.if-not-all_finite.true)

pub returns-then-not-agree : goal.returns-then-not-agree
returns-then-not-agree c =
    start-disagree _ _ _ _ c.if-common-gt-COMMON.false _ c.rows_fit.ensures (ap not c.if-not-rows_fit.false) _ c.all_finite.ensures (ap not c.if-not-all_finite.false) _ c.agree.ensures (ap not c.if-not-agree.true)

pub returns : goal.returns
returns c =
    start-last _ _ _ _ c.if-common-gt-COMMON.false _ c.rows_fit.ensures (ap not c.if-not-rows_fit.false) _ c.all_finite.ensures (ap not c.if-not-all_finite.false) _ c.agree.ensures _ (ap not c.if-not-agree.false) c.check_table.ensures

pub returns-then-common-gt-COMMON : goal.returns-then-common-gt-COMMON
returns-then-common-gt-COMMON c = start-many _ _ _ _ c.if-common-gt-COMMON.true

pub returns-then-not-rows_fit : goal.returns-then-not-rows_fit
returns-then-not-rows_fit c = start-rows _ _ _ _ c.if-common-gt-COMMON.false _ c.rows_fit.ensures (ap not c.if-not-rows_fit.true)
