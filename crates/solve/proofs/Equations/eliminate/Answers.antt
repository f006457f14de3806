use borrow.Author.Rules.{rules}
use Rattle.region.proofs.Across.{across-none, across_as}
use Rattle.solve.proofs.Standings.{stood_none, forth-next}
use Rattle.solve.proofs.Equations.eliminate.Goals as goal

pub loop-t-init : goal.loop-t-init
loop-t-init c = across-none (λ l h. stood_none _ _)

pub loop-t-preserved : goal.loop-t-preserved
loop-t-preserved c = let s = c.requires in
    forth-next _ _ _ _ _ s.1 _ s.2 _ _ _ c.loop-t-test.true c.loop-t.invariant (across_as c.each_lane.ensures (λ l h k. search rules))
