use Rattle.voicing.proofs.Passes.{Passed}
use Rattle.voicing.proofs.flags.Frames.voiced.Given as goal

abbrev pub invariant-loop-x : goal.invariant-loop-x
invariant-loop-x l = Passed l.self.durations.now l.self.flags.now l.x-index l.f l.n
