use mathlib.Core.Path.{◌≡◌}
use Prim.Native.Nat.{◌*◌}
use Rattle.std.specs.Fork.{ChangesAt}
use Rattle.region.proofs.Lanes.{Stepped}
use Rattle.solve.proofs.each_lane.Given as goal

abbrev pub invariant-loop-l : goal.invariant-loop-l
invariant-loop-l g l = (l.o ≡ l.l * l.size) × Stepped (ChangesAt g.F.Fn l.f) l.size l.lanes l.l l.initial.work l.work
