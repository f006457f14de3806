use Rattle.std.proofs.Common.{replicate}
use Rattle.lists.proofs.Stores.{Storing}
use Rattle.lists.proofs.fill.Given as goal

abbrev pub invariant-loop-i : goal.invariant-loop-i
invariant-loop-i g l = Storing (replicate l.n l.v) l.initial.s l.s l.i-end l.i
