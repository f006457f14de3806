use mathlib.Core.Path.{◌≡◌, refl, sym, ◌∙◌}
use Prim.Native.Nat.{◌+◌, ◌-◌, ◌*◌, ◌≤◌}
use native.Mathlib.Nat.{zero-mul}
use native.Mathlib.Omega.{arith}
use lib.ListN.{length, take, drop}
use lib.Seq.{take_all}
use lib.Ieee.{nan}
use Rattle.lists.specs.Build.{build}
use Rattle.lists.proofs.Expansions.{part_length}
use Rattle.lists.proofs.Fills.{build-next, build-done}
use Rattle.lists.proofs.Rows.{row_fits}
use Rattle.lists.specs.Build as flat
use Rattle.band.specs.Paper.{entry_of, right_sum, band_rows, right_side}
use Rattle.band.proofs.Ways.{row_written}
use Rattle.band.proofs.row.Pairs.write_rows.Goals as goal
use Rattle.band.proofs.row.Pairs.write_rows.Goals.{In-loop-t}

module _ (c : In-loop-t) where
  -- row t lies within the rows
  fits : c.loop-t.t * c.args.w + c.args.w ≤ length c.loop-t.rows
  fits = omega (arith, c.requires.1, row_fits c.args.w c.loop-t.t c.args.self.n c.loop-t-test.true)

pub loop-t-init : goal.loop-t-init
unfolding flat.rows build
loop-t-init c = (rw zero-mul, refl)

pub loop-t-preserved : goal.loop-t-preserved
loop-t-preserved c =
    let s = c.args in
    let l = c.loop-t in
    let e = c.settled_row.ensures in
    let f = fits (goal.at.loop-t-preserved c).In-loop-t in
    let b = l.t * s.w in
    let wide : length (take (b + s.w - b) (drop b l.rows)) ≡ s.w = part_length l.rows b s.w f in (
      (row_written (λ t. build (entry_of s.self.windows.widths.now s.self.windows.coefficients.now s.self.n s.self.ivars.now t) s.w) s.w l.rows _ l.t b (c.settled_row.auto.row ∙ wide) refl f l.invariant.0 (rw wide at e.0)).0,
      build-next (right_sum s.self.windows.widths.now s.self.windows.coefficients.now s.self.n s.self.ivars.now s.self.means.now) s.right.now l.right l.t _ nan (omega (arith, c.requires.2)) e.1 l.invariant.1,
    )

pub returns : goal.returns
unfolding band_rows right_side
returns c = let s = c.args in
    let q = c.requires in
    let l = c.loop-t in
    let e : l.t ≡ s.self.n = omega arith in
    (sym (take_all (s.self.n * s.w) l.rows (omega (arith, q.1))) ∙ rw e at l.invariant.0, build-done (right_sum s.self.windows.widths.now s.self.windows.coefficients.now s.self.n s.self.ivars.now s.self.means.now) s.right.now l.right l.t s.self.n e (omega (arith, q.2)) l.invariant.1)
