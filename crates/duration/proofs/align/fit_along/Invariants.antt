use Rattle.steps.specs.Lent.{lent}
use Rattle.duration.proofs.Along.{Along}
use Rattle.duration.proofs.align.fit_along.Given as goal

abbrev pub invariant-loop-end : goal.invariant-loop-end
invariant-loop-end l = Along (lent l.states) l.nstate l.ends l.initial.work l.work l.done l.first l.frames l.changes l.end-index
