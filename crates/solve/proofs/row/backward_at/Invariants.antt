use mathlib.Core.Path.{◌≡◌}
use Prim.Native.Nat.{◌+◌, ◌-◌}
use lib.ListN.{drop}
use lib.Ieee.{binary64, div}
use Rattle.region.specs.Rows.{elem, entry}
use Rattle.solve.specs.Sums.{less}
use Rattle.solve.specs.Solve.{backward_term}
use Rattle.solve.proofs.row.backward_at.Given as goal

abbrev pub invariant-loop-k : goal.invariant-loop-k
invariant-loop-k l = l.r ≡ less (div binary64 (elem l.g l.t) (entry l.w l.f l.t 0)) (backward_term l.w l.f (drop (l.t + 1) l.g) l.t) (l.k - 1)
