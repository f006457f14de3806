use Rattle.steps.specs.Steps.{size}
use Rattle.steps.specs.Lent.{lent}
use Rattle.steps.specs.Inner.Scores.{key_at}
use Rattle.steps.proofs.Scans.{Scanning}
use Rattle.steps.proofs.scan.least_of.Given as goal

abbrev pub invariant-loop-i : goal.invariant-loop-i
invariant-loop-i l = Scanning (key_at l.way.up l.way.rho (lent l.way.states) l.work) (size (lent l.way.states)) l.i l.best
