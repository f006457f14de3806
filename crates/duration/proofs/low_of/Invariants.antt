use Rattle.duration.proofs.Shortest.{Looking}
use Rattle.duration.proofs.low_of.Given as goal

abbrev pub invariant-loop-frames : goal.invariant-loop-frames
invariant-loop-frames l = Looking l.shortest l.none l.sum l.frames-index
