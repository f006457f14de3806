use mathlib.Core.Path.{◌≡◌}
use Prim.Native.Nat.{◌+◌, ◌*◌}
use Rattle.lists.specs.Build.{over}
use Rattle.band.proofs.Runs.{both}
use Rattle.band.proofs.passes.Pass.add_pair.Given as goal

-- t rows are done
abbrev pub invariant-loop-t : goal.invariant-loop-t
invariant-loop-t l = (l.q ≡ l.initial.q + l.t * l.w) × (l.m ≡ over (both l.initial.q l.gap l.w l.self.u l.c l.d l.e) l.t l.initial.m)
