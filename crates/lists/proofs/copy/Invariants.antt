use Rattle.std.proofs.Common.{min, length, take}
use Rattle.lists.proofs.Stores.{Storing}
use Rattle.lists.proofs.copy.Given as goal

abbrev pub invariant-loop-i : goal.invariant-loop-i
invariant-loop-i g l = Storing (take l.n l.src) l.initial.dst l.dst (min (min l.n (length l.src)) (length l.initial.dst)) l.i
