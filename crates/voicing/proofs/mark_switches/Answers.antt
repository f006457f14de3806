use mathlib.Core.Path.{◌≡◌, sym, ◌∙◌}
use mathlib.Core.Bool.{true}
use native.Mathlib.Omega.{arith}
use borrow.Author.Tests.{not-false}
use lib.ListN.{length}
use Rattle.voicing.specs.Space.{flagged}
use Rattle.voicing.specs.Inner.Fits.{Flagged}
use Rattle.voicing.proofs.Masks.{mask-voiced}
use Rattle.voicing.proofs.Doors.{flagged_is}
use Rattle.std.proofs.Common.{ap}
use Rattle.std.proofs.Common.{not}
use Rattle.voicing.proofs.mark_switches.Goals as goal
use Rattle.voicing.proofs.mark_switches.Goals.{Else-not-flagged}

module _ (c : Else-not-flagged) where
  opened : flagged c.args.durations.now (length c.args.flags.now) ≡ true
  opened = sym c.flagged.ensures ∙ not-false _ (ap not c.if-not-flagged.false)

  fits : Flagged c.args.durations.now (length c.args.flags.now)
  fits = flagged_is _ _ opened

pub overflow_add-end : goal.overflow_add-end
overflow_add-end c = let a = c.args in omega (arith, c.voiced.ensures, c.frames_in-frames.ensures, (fits (goal.at.overflow_add-end c).Else-not-flagged).frames, mask-voiced a.durations.now a.flags.now)
