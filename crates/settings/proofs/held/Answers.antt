use mathlib.Core.Path.{sym, ◌∙◌}
use native.Mathlib.Omega.{arith}
use Rattle.lists.proofs.Chosen.{counting, counted, one-here, none_here}
use Rattle.settings.proofs.Holding.{held_all}
use Rattle.settings.proofs.held.Goals as goal
use Rattle.settings.proofs.held.Goals.{then-holds, else-holds}

pub loop-place-init : goal.loop-place-init
loop-place-init c = counting _ _

pub loop-place-preserved : goal.loop-place-preserved
loop-place-preserved c =
    let l = c.loop-place in
    (elim c.if-holds.branch [
      | then-holds w ↦ rw w.n-is (one-here l.invariant (omega arith) (sym c.holds.ensures ∙ w.if-holds.true))
      | else-holds w ↦ rw w.n-is (none_here l.invariant (omega arith) (sym c.holds.ensures ∙ w.if-holds.false))
    ])

pub returns : goal.returns
returns c = held_all _ _ (counted c.loop-place.invariant (omega arith))
