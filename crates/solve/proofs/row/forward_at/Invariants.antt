use mathlib.Core.Path.{◌≡◌}
use Prim.Native.Nat.{◌-◌}
use Rattle.solve.specs.Sums.{less}
use Rattle.solve.specs.Solve.{forward_term}
use Rattle.solve.proofs.row.forward_at.Given as goal

abbrev pub invariant-loop-k : goal.invariant-loop-k
invariant-loop-k l = l.r ≡ less l.x (forward_term l.w l.f l.g l.t) (l.k - 1)
