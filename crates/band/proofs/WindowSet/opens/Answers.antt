use Rattle.band.proofs.Door.{shut-taps, open_last}
use Rattle.std.proofs.Common.{ap}
use Rattle.std.proofs.Common.{not}
use Rattle.band.proofs.WindowSet.opens.Goals as goal

pub returns-then-total_u32-self : goal.returns-then-total_u32-self
returns-then-total_u32-self c = let s = c.args in
    shut-taps s.self.widths.now s.self.coefficients.now s.g s.lanes s.floats _ c.widths_fit.ensures (ap not c.if-not-widths_fit.false) _ c.total_u32.ensures c.if-total_u32-self.true

pub returns : goal.returns
returns c = let s = c.args in
    open_last s.self.widths.now s.self.coefficients.now s.g s.lanes s.floats _ c.widths_fit.ensures (ap not c.if-not-widths_fit.false) _ c.total_u32.ensures c.if-total_u32-self.false
    _ c.from.ensures c.if-self-from.false _ _ c.band_width.ensures c.from-2.ensures c.if-band_width-from.false _ c.fits.ensures
