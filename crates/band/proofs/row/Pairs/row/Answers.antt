use mathlib.Core.Path.{◌≡◌, refl, sym}
use Prim.Native.Nat.{◌+◌, ◌≤◌}
use native.Mathlib.Nat.{zero-mul, suc-mul, add-sub_cancel_left}
use native.Mathlib.Numerals.{add-one}
use native.Mathlib.Omega.{arith}
use lib.ListN.{length, get_or}
use Rattle.lists.specs.Totals.{total}
use Rattle.lists.proofs.Sums.{total-more}
use Rattle.lists.proofs.Expansions.{part_length}
use Rattle.band.proofs.Windows.{windowed_none, windowed_next, windowed_all, taps_in, ivars-fit}
use Rattle.band.proofs.row.Pairs.row.Goals as goal
use Rattle.band.proofs.row.Pairs.row.Goals.{In-loop-width}

pub loop-width-init : goal.loop-width-init
unfolding total
loop-width-init c = let s = c.args in (refl, sym (zero-mul _), windowed_none s.self.windows.widths.now s.self.windows.coefficients.now s.self.n s.self.ivars.now s.self.means.now s.t (length s.row.now) _ (c.fill.ensures.after (λ y h. h)))

module _ (c : In-loop-width) where
  -- this window's taps lie within the list
  taps : c.loop-width.o + get_or c.args.self.windows.widths.now c.loop-width.width-index 0 ≤ length c.args.self.windows.coefficients.now
  taps = omega (arith, c.loop-width.invariant.0, taps_in c.args.self.windows.widths.now c.args.self.windows.coefficients.now _ c.requires.1.set c.loop-width.width-index c.loop-width-test.true)

pub loop-width-preserved : goal.loop-width-preserved
loop-width-preserved c =
    let s = c.args in
    let l = c.loop-width in
    let e = c.add-right.ensures in (
      omega (arith, l.invariant.0, total-more s.self.windows.widths.now l.width-index c.loop-width-test.true),
      rw add-one (omega (arith, l.invariant.1, suc-mul l.width-index s.self.n)),
      windowed_next s.self.windows.widths.now s.self.windows.coefficients.now s.self.n s.self.ivars.now s.self.means.now s.t (length s.row.now) l.width-index _ l.o l.b _ _ _ l.row _ l.right _ l.invariant.2 l.invariant.0 l.invariant.1
          refl (rw add-sub_cancel_left) (rw add-sub_cancel_left) (rw add-sub_cancel_left) (part_length s.self.ivars.now l.b s.self.n (omega (arith, l.invariant.1, ivars-fit _ _ _ _ _ _ c.requires.1 l.width-index c.loop-width-test.true))) e.0 e.1,
    )

pub returns : goal.returns
returns c =
    let l = c.loop-width in
    let s = c.args in
    let e : l.width-index ≡ length s.self.windows.widths.now = omega arith in windowed_all s.self.windows.widths.now s.self.windows.coefficients.now s.self.n s.self.ivars.now s.self.means.now s.t (length s.row.now) l.row l.right (rw e at l.invariant.2)

pub offset_bounds-self-o : goal.offset_bounds-self-o
offset_bounds-self-o c = omega (arith, c.well_formed, taps (goal.at.offset_bounds-self-o c).In-loop-width)

pub slice_bounds-window-end : goal.slice_bounds-window-end
slice_bounds-window-end c = taps (goal.at.slice_bounds-window-end c).In-loop-width

pub overflow_add-window : goal.overflow_add-window
overflow_add-window c = omega (arith, c.well_formed, taps (goal.at.overflow_add-window c).In-loop-width)
