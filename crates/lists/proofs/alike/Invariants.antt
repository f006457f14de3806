use Prim.Native.Nat.{◌-◌}
use Rattle.lists.proofs.Fronts.{Alike}
use Rattle.lists.proofs.alike.Given as goal

abbrev pub invariant-loop-i : goal.invariant-loop-i
invariant-loop-i l = Alike l.front l.bytes l.i

abbrev pub decreases-loop-i : goal.decreases-loop-i
decreases-loop-i l = l.n - l.i
