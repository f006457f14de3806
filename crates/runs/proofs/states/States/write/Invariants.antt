use Prim.Native.Nat.{◌*◌}
use Rattle.runs.specs.Inner.Lent.{mask_in}
use Rattle.runs.proofs.Findings.{Writing}
use Rattle.runs.proofs.states.States.write.Given as goal

abbrev pub invariant-loop-number : goal.invariant-loop-number
invariant-loop-number l = Writing l.self.durations.now (mask_in l.self) l.out l.found (2 * l.number)
