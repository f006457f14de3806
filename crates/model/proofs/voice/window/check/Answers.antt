use Rattle.model.proofs.Windows.{refused_4, refused_none}
use Rattle.std.proofs.Common.{ap, not}
use Rattle.model.proofs.voice.window.check.Goals as goal

pub returns-then-total_u32-coefficients : goal.returns-then-total_u32-coefficients
returns-then-total_u32-coefficients c = refused_4 _ _ _ c.widths_fit.ensures (ap not c.if-not-widths_fit.false) _ c.all_finite.ensures (ap not c.if-not-all_finite.false) _ c.total_u32.ensures c.if-total_u32-coefficients.true

pub returns : goal.returns
returns c = refused_none _ _ _ c.widths_fit.ensures (ap not c.if-not-widths_fit.false) _ c.all_finite.ensures (ap not c.if-not-all_finite.false) _ c.total_u32.ensures c.if-total_u32-coefficients.false
