use Rattle.region.specs.Inner.Passes.{Across}
use Rattle.solve.specs.Inner.Standing.{Back}
use Rattle.solve.proofs.Equations.backward.Given as goal

abbrev pub invariant-loop-t : goal.invariant-loop-t
invariant-loop-t l = let s = l.self in Across (λ i. Back s.p s.n s.w l.t) s.p.size l.lanes l.initial.work l.work
