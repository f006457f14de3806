use native.Mathlib.Omega.{arith}
use Rattle.std.proofs.Common.{sym}
use Rattle.std.proofs.lemmas.Result.{err_from_is_err_and}
use Rattle.model.proofs.Accepted.{accepted-some}
use Rattle.band.proofs.Ways.{frames-windows, frames-rest, frames-other, frames-many, frames-few}
use Rattle.band.proofs.WindowSet.frames.Goals as goal

pub returns-in_err-check : goal.returns-in_err-check
returns-in_err-check c =
    let p = err_from_is_err_and c.from_residual.result c.from_residual.ensures.1 in rw (p.1, p.2) (frames-windows c.args.self.widths.now c.args.self.coefficients.now c.args.means c.args.ivars _ c.in_err-check.ensures)

pub nonzero_rem-means : goal.nonzero_rem-means
nonzero_rem-means c = omega (arith, accepted-some c.args.self.widths.now c.args.self.coefficients.now (sym c.in_ok-check.ensures))

pub returns-then-means-windows-ne0 : goal.returns-then-means-windows-ne0
returns-then-means-windows-ne0 c = let s = c.args in frames-rest s.self.widths.now s.self.coefficients.now s.means s.ivars c.in_ok-check.ensures c.if-means-windows-ne0.true

pub returns-then-ivars-means : goal.returns-then-ivars-means
returns-then-ivars-means c = let s = c.args in frames-other s.self.widths.now s.self.coefficients.now s.means s.ivars c.in_ok-check.ensures c.if-means-windows-ne0.false c.if-ivars-means.true

pub nonzero_div-n : goal.nonzero_div-n
nonzero_div-n c = omega (arith, accepted-some c.args.self.widths.now c.args.self.coefficients.now (sym c.in_ok-check.ensures))

pub returns-then-n-gt65536 : goal.returns-then-n-gt65536
returns-then-n-gt65536 c = let s = c.args in
    frames-many s.self.widths.now s.self.coefficients.now s.means s.ivars c.in_ok-check.ensures c.if-means-windows-ne0.false c.if-ivars-means.false c.if-n-gt65536.true

pub returns : goal.returns
returns c = let s = c.args in
    frames-few s.self.widths.now s.self.coefficients.now s.means s.ivars c.in_ok-check.ensures c.if-means-windows-ne0.false c.if-ivars-means.false c.if-n-gt65536.false
