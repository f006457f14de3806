use Prim.Native.Nat.{◌+◌}
use Rattle.voicing.proofs.Runs.{Walking}
use Rattle.voicing.proofs.flags.Frames.run_end.Given as goal

abbrev pub invariant-loop-x : goal.invariant-loop-x
invariant-loop-x l = Walking l.self.durations.now l.self.flags.now l.f (l.s + l.x-index) l.e
