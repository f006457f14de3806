use mathlib.Core.Path.{◌≡◌, sym}
use Prim.Native.Nat.{◌≤◌}
use native.Mathlib.Nat.{mul-le-mul_left}
use native.Mathlib.Omega.{arith}
use lib.ListN.{length}
use lib.Seq.{length-take-le}
use Rattle.band.specs.Promise.{frame_count, set_refusal}
use Rattle.std.proofs.lemmas.Result.{err_from_is_err_and}
use Rattle.lists.proofs.Ends.{passed}
use Rattle.band.proofs.Ways.{agree, band-narrow, set-taps, band-stops, band_rows-short, band-right-short, band-finished}
use Rattle.band.proofs.band_rows.Goals as goal
use Rattle.band.proofs.band_rows.Goals.{After-band_width-w}

module _ (c : After-band_width-w) where
  -- nothing of 1, 2, 4 and 5 is given
  ok : (set_refusal c.args.widths.now c.args.coefficients.now (length c.args.means.now) (length c.args.ivars.now) ≡ 0) × (frame_count c.args.widths.now (length c.args.means.now) ≡ c.in_ok-frames.frames)
  ok = passed _ _ _ c.in_ok-frames.ensures

  -- so many frames
  count : c.in_ok-frames.frames ≡ frame_count c.args.widths.now (length c.args.means.now)
  count = sym ok.1

pub returns-in_err-frames : goal.returns-in_err-frames
returns-in_err-frames c = let s = c.args in
    let p = err_from_is_err_and c.from_residual.result c.from_residual.ensures.1 in rw (p.1, p.2) (band-stops s.widths.now s.coefficients.now s.means.now s.ivars.now s.rows.now s.right.now _ c.in_err-frames.ensures)

pub overflow_mul-k : goal.overflow_mul-k
overflow_mul-k c =
    let s = c.args in
    let g = agree s.widths.now s.coefficients.now (length s.means.now) (length s.ivars.now) (ok (goal.at.overflow_mul-k c).After-band_width-w).0 in
    let w : c.band_width-w.result ≤ 15 = rw c.band_width-w.ensures (band-narrow s.widths.now s.coefficients.now g.windows) in
    omega (arith, count (goal.at.overflow_mul-k c).After-band_width-w, g.few, mul-le-mul_left c.in_ok-frames.frames w)

pub returns-then-rows-k : goal.returns-then-rows-k
returns-then-rows-k c =
    let s = c.args in
    band_rows-short s.widths.now s.coefficients.now s.means.now s.ivars.now s.rows.now s.right.now (ok (goal.at.returns-then-rows-k c).After-band_width-w).0 (rw (count (goal.at.returns-then-rows-k c).After-band_width-w, c.band_width-w.ensures) at c.if-rows-k.true)

pub returns-then-right-n : goal.returns-then-right-n
returns-then-right-n c =
    let s = c.args in
    band-right-short s.widths.now s.coefficients.now s.means.now s.ivars.now s.rows.now s.right.now (ok (goal.at.returns-then-right-n c).After-band_width-w).0 (rw (count (goal.at.returns-then-right-n c).After-band_width-w, c.band_width-w.ensures) at c.if-rows-k.false) (rw (count (goal.at.returns-then-right-n c).After-band_width-w) at c.if-right-n.true)

pub write_rows-requires : goal.write_rows-requires
write_rows-requires c =
    let s = c.args in
    let g = agree s.widths.now s.coefficients.now (length s.means.now) (length s.ivars.now) (ok (goal.at.write_rows-requires c).After-band_width-w).0 in (
      record {
        set = rw c.band_width-w.ensures (set-taps s.widths.now s.coefficients.now g.windows);
        ivars_long = rw (count (goal.at.write_rows-requires c).After-band_width-w) (omega (arith, g.whole, g.same));
        means_long = rw (count (goal.at.write_rows-requires c).After-band_width-w) (omega (arith, g.whole));
      },
      length-take-le _ _ c.if-rows-k.false,
      length-take-le _ _ c.if-right-n.false,
    )

pub returns : goal.returns
returns c =
    let s = c.args in
    let e = c.write_rows.ensures in
    band-finished s.widths.now s.coefficients.now s.means.now s.ivars.now s.rows.now s.right.now (ok (goal.at.returns c).After-band_width-w).0 c.in_ok-frames.frames c.band_width-w.result _ _ (count (goal.at.returns c).After-band_width-w) c.band_width-w.ensures c.if-rows-k.false c.if-right-n.false
    e.0 e.1
