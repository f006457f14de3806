use mathlib.Core.Path.{◌≡◌}
use Prim.Native.Nat.{◌*◌}
use lib.ListN.{take}
use Rattle.lists.specs.Totals.{total}
use Rattle.band.specs.Inner.Passes.{Moved, set_in, windows_entry, windows_side}
use Rattle.band.proofs.WindowSet.pass_windows.Given as goal

-- so many windows are done
abbrev pub invariant-loop-width : goal.invariant-loop-width
invariant-loop-width l =
    (l.o ≡ total (take l.width-index l.self.widths.now)) × (l.f ≡ l.width-index * l.b.n)
    × Moved l.b (windows_entry (set_in l.self.widths.now l.self.coefficients.now l.ivars l.b.n l.initial.m) l.width-index) (windows_side (set_in l.self.widths.now l.self.coefficients.now l.ivars l.b.n l.initial.m) l.width-index) l.initial.m l.m
