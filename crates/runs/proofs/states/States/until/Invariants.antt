use Rattle.runs.specs.Inner.Lent.{mask_in}
use Rattle.runs.proofs.Findings.{Passed}
use Rattle.runs.proofs.states.States.until.Given as goal

abbrev pub invariant-loop-state : goal.invariant-loop-state
invariant-loop-state l = Passed l.voiced l.self.durations.now (mask_in l.self) l.fn.from (record { state = l.state; frame = l.frame })
