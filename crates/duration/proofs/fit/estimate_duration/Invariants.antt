use Rattle.steps.specs.Lent.{lent}
use Rattle.duration.proofs.Estimates.{Estimating}
use Rattle.duration.proofs.fit.estimate_duration.Given as goal

abbrev pub invariant-loop-i : goal.invariant-loop-i
invariant-loop-i l = Estimating l.rho (lent l.states) l.initial.work l.work l.sum l.i
