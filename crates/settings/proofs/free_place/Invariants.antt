use Rattle.settings.proofs.Places.{Looking}
use Rattle.settings.proofs.free_place.Given as goal

abbrev pub invariant-loop-free : goal.invariant-loop-free
invariant-loop-free l = Looking l.voices l.free
