use Rattle.houses.proofs.Reading.{Seeking}
use Rattle.houses.proofs.slots.up_to_last.Given as goal

abbrev pub invariant-loop-i : goal.invariant-loop-i
invariant-loop-i l = Seeking l.row l.i
