use mathlib.Core.Path.{◌≡◌}
use Prim.Native.Nat.{◌-◌}
use lib.Ieee.{binary64, mul}
use Rattle.lists.specs.Build.{over}
use Rattle.region.specs.Rows.{elem, entry}
use Rattle.gv.specs.Gv.{beside}
use Rattle.gv.proofs.gradient.gradient_by_entries.Given as goal

abbrev pub invariant-loop-i : goal.invariant-loop-i
invariant-loop-i l = l.g ≡ over (beside l.w l.wuw l.par l.t) (l.i - 1) (mul binary64 (entry l.w l.wuw l.t 0) (elem l.par l.t))
