use mathlib.Core.Path.{◌≡◌}
use Prim.Native.Nat.{◌+◌, ◌*◌}
use Rattle.lists.specs.Build.{over}
use Rattle.band.proofs.Runs.{scaled}
use Rattle.band.proofs.passes.Pass.add_column.Given as goal

-- t rows are done
abbrev pub invariant-loop-t : goal.invariant-loop-t
invariant-loop-t l = (l.q ≡ l.initial.q + l.t * l.w) × (l.m ≡ over (scaled l.initial.q l.w l.self.u l.c l.d) l.t l.initial.m)
