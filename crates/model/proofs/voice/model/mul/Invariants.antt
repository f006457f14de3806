use mathlib.Core.List.{map}
use Rattle.std.proofs.Common.{length}
use Rattle.lists.proofs.Stores.{Storing}
use Rattle.model.proofs.Scaling.{times}
use Rattle.model.proofs.voice.model.mul.Given as goal

abbrev pub invariant-loop-i : goal.invariant-loop-i
invariant-loop-i l = Storing (map (times l.weight) l.lin) l.initial.out l.out (length l.lin) l.i
