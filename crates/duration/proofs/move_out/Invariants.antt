use Rattle.duration.proofs.Calls.{Moving}
use Rattle.duration.proofs.move_out.Given as goal

abbrev pub invariant-loop-i : goal.invariant-loop-i
invariant-loop-i l = Moving l.count l.initial.out l.initial.work l.out l.work l.i
