use Rattle.floats.proofs.Squares.{Kept}
use Rattle.floats.proofs.nearest_root.Given as goal

abbrev pub invariant-loop-turn : goal.invariant-loop-turn
invariant-loop-turn l = Kept l.d l.root l.left l.rest l._turn
