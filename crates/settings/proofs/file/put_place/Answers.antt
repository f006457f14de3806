use mathlib.Core.Path.{refl, sym, ◌∙◌}
use native.Mathlib.Omega.{arith}
use borrow.Author.Tests.{not-true, not-false}
use Rattle.settings.proofs.Writing.{place-free, place-held}
use Rattle.std.proofs.Common.{ap}
use Rattle.std.proofs.Common.{not}
use Rattle.settings.proofs.file.put_place.Goals as goal

pub returns-then-not-holds : goal.returns-then-not-holds
returns-then-not-holds c = place-free _ _ _ _ (sym c.holds.ensures ∙ not-true _ (ap not c.if-not-holds.true))

pub returns : goal.returns
returns c =
    place-held _ _ _ _ _ _ _ (sym c.holds.ensures ∙ not-false _ (ap not c.if-not-holds.false)) (omega (arith, c.requires.0)) refl c.settings_at-given.ensures c.put_entry.ensures
