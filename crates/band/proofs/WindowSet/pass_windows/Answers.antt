use mathlib.Core.Path.{refl, sym}
use Prim.Native.Nat.{◌+◌, ◌≤◌}
use native.Mathlib.Nat.{zero-mul, suc-mul, add-sub_cancel_left}
use native.Mathlib.Numerals.{add-one}
use native.Mathlib.Omega.{arith}
use lib.ListN.{length, get_or}
use Rattle.lists.specs.Totals.{total}
use Rattle.lists.proofs.Sums.{total-more}
use Rattle.band.proofs.Windows.{taps_in}
use Rattle.band.proofs.Blocks.{windows-none, windows-next}
use Rattle.band.proofs.WindowSet.pass_windows.Goals as goal
use Rattle.band.proofs.WindowSet.pass_windows.Goals.{In-loop-width}

module _ (c : In-loop-width) where
  -- this window's taps lie within the list
  taps : c.loop-width.o + get_or c.args.self.widths.now c.loop-width.width-index 0 ≤ length c.args.self.coefficients.now
  taps = omega (arith, c.loop-width.invariant.0, taps_in _ _ _ c.requires.0 c.loop-width.width-index c.loop-width-test.true)

pub loop-width-init : goal.loop-width-init
unfolding total
loop-width-init c =
    (refl, sym (zero-mul _), windows-none c.args.self.widths.now c.args.self.coefficients.now c.args.ivars c.args.b c.args.m.now c.requires.1 c.requires.2 (omega (arith, c.requires.3.right-at, c.requires.3.room)))

pub loop-width-preserved : goal.loop-width-preserved
loop-width-preserved c =
    let l = c.loop-width in
    let h = c.loop-width-test.true in (
      omega (arith, l.invariant.0, total-more c.args.self.widths.now l.width-index h),
      rw add-one (omega (arith, l.invariant.1, suc-mul l.width-index c.args.b.n)),
      windows-next c.args.self.widths.now c.args.self.coefficients.now c.args.ivars c.args.b c.args.m.now c.requires.1 c.requires.2 (omega (arith, c.requires.3.right-at, c.requires.3.room)) l.m _ _ l.width-index l.o _ l.f h l.invariant.0 refl l.invariant.1
          (rw add-sub_cancel_left) l.invariant.2 c.pass_window.ensures,
    )

pub offset_bounds-self-o : goal.offset_bounds-self-o
offset_bounds-self-o c = omega (arith, taps (goal.at.offset_bounds-self-o c).In-loop-width, c.well_formed)

pub slice_bounds-window-end : goal.slice_bounds-window-end
slice_bounds-window-end c = taps (goal.at.slice_bounds-window-end c).In-loop-width

pub overflow_add-window : goal.overflow_add-window
overflow_add-window c = omega (arith, taps (goal.at.overflow_add-window c).In-loop-width, c.well_formed)
