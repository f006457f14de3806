use mathlib.Core.Path.{◌≡◌}
use Prim.Native.Nat.{◌-◌}
use Rattle.solve.specs.Sums.{less}
use Rattle.solve.specs.Solve.{factor_term}
use Rattle.solve.proofs.row.reduced_at.Given as goal

abbrev pub invariant-loop-k : goal.invariant-loop-k
invariant-loop-k l = l.r ≡ less l.x (factor_term l.w l.f l.t l.i) (l.k - 1)
