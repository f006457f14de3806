use Rattle.voicing.proofs.Runs.{filled-same, filled-ends}
use Rattle.voicing.proofs.closing.fill_ivars.Goals as goal

pub returns-then-first-last-eq0 : goal.returns-then-first-last-eq0
returns-then-first-last-eq0 c = filled-same c.args.e c.args.ivar c.args.out.now _ c.requires c.fill.ensures _ _ c.min-first.ensures c.min-last.ensures c.if-first-last-eq0.true

pub returns : goal.returns
returns c = filled-ends c.args.e c.args.ivar c.args.out.now _ c.requires c.fill.ensures _ _ c.min-first.ensures c.min-last.ensures _ _ c.fill-2.ensures c.fill-3.ensures
