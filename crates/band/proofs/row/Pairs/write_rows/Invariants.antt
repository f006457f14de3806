use mathlib.Core.Path.{◌≡◌}
use mathlib.Core.List.{◌++◌}
use Prim.Native.Nat.{◌*◌}
use lib.ListN.{take, drop}
use Rattle.lists.specs.Build.{build}
use Rattle.lists.specs.Build as flat
use Rattle.band.specs.Paper.{entry_of, right_sum}
use Rattle.band.proofs.row.Pairs.write_rows.Given as goal

-- t rows and t values are stored
abbrev pub invariant-loop-t : goal.invariant-loop-t
invariant-loop-t l =
    (take (l.t * l.w) l.rows ≡ flat.rows (λ t. build (entry_of l.self.windows.widths.now l.self.windows.coefficients.now l.self.n l.self.ivars.now t) l.w) l.t)
    × (l.right ≡ build (right_sum l.self.windows.widths.now l.self.windows.coefficients.now l.self.n l.self.ivars.now l.self.means.now) l.t ++ drop l.t l.initial.right)
