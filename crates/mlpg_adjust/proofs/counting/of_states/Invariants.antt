use Rattle.model.specs.Clamps.{is_high, is_low}
use Rattle.mlpg_adjust.proofs.Clamps.{Reached}
use Rattle.mlpg_adjust.proofs.counting.of_states.Given as goal

abbrev pub invariant-loop-s : goal.invariant-loop-s
invariant-loop-s l =
    Reached is_high l.u.size l.records l.u.threshold l.durations l.s l.high × Reached is_low l.u.size l.records l.u.threshold l.durations l.s l.low
