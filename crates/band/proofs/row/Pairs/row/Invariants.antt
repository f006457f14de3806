use mathlib.Core.Path.{◌≡◌}
use Prim.Native.Nat.{◌*◌}
use lib.ListN.{length, take}
use Rattle.lists.specs.Totals.{total}
use Rattle.band.proofs.Windows.{Windowed}
use Rattle.band.proofs.row.Pairs.row.Given as goal

-- after so many windows the row and the right side are those of these windows
abbrev pub invariant-loop-width : goal.invariant-loop-width
invariant-loop-width l =
    (l.o ≡ total (take l.width-index l.self.windows.widths.now)) × (l.b ≡ l.width-index * l.self.n) × Windowed l.self.windows.widths.now l.self.windows.coefficients.now l.self.n l.self.ivars.now l.self.means.now l.t (length l.fn.row) l.width-index l.row l.right
