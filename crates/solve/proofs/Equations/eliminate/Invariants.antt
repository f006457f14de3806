use Rattle.region.specs.Inner.Passes.{Across}
use Rattle.solve.specs.Inner.Standing.{Forth}
use Rattle.solve.proofs.Equations.eliminate.Given as goal

abbrev pub invariant-loop-t : goal.invariant-loop-t
invariant-loop-t l = let s = l.self in Across (λ i. Forth s.p s.n s.w l.t) s.p.size l.lanes l.initial.work l.work
