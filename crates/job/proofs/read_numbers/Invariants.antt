use mathlib.Core.Path.{◌≡◌}
use mathlib.Core.List.{◌++◌}
use Prim.Native.Nat.{ℕ, ◌+◌, ◌*◌}
use lib.ListN.{drop}
use Rattle.lists.specs.Build.{build}
use Rattle.job.specs.Format.{number_at}
use Rattle.job.proofs.read_numbers.Given as goal

abbrev pub invariant-loop-i : goal.invariant-loop-i
invariant-loop-i l = l.into ≡ build (λ (k : ℕ). number_at l.bytes (31 + 20 * k)) l.i ++ drop l.i l.initial.into
