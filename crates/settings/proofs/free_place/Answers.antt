use mathlib.Core.Path.{sym, ◌∙◌}
use native.Mathlib.Omega.{arith}
use borrow.Author.Tests.{not-true, not-false}
use Rattle.settings.proofs.Places.{looking, none_free, free-here, look_next}
use Rattle.std.proofs.Common.{ap}
use Rattle.std.proofs.Common.{not}
use Rattle.settings.proofs.free_place.Goals as goal

pub loop-free-init : goal.loop-free-init
loop-free-init c = looking _

pub returns-then-not-holds : goal.returns-then-not-holds
returns-then-not-holds c = (free-here c.loop-free.invariant (omega arith) (sym c.holds.ensures ∙ not-true _ (ap not c.if-not-holds.true)), omega arith)

pub loop-free-preserved : goal.loop-free-preserved
loop-free-preserved c = look_next c.loop-free.invariant (omega arith) (sym c.holds.ensures ∙ not-false _ (ap not c.if-not-holds.false))

pub returns : goal.returns
returns c = omega (arith, none_free c.loop-free.invariant (omega arith))
