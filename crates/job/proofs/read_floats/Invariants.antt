use mathlib.Core.Path.{◌≡◌}
use mathlib.Core.List.{◌++◌}
use Prim.Native.Nat.{ℕ, ◌+◌, ◌*◌}
use lib.ListN.{drop}
use Rattle.lists.specs.Build.{build}
use Rattle.job.specs.Format.{float_at}
use Rattle.job.proofs.read_floats.Given as goal

abbrev pub invariant-loop-i : goal.invariant-loop-i
invariant-loop-i l = l.into ≡ build (λ (k : ℕ). float_at l.bytes (l.from + l.step * k)) l.i ++ drop l.i l.initial.into
