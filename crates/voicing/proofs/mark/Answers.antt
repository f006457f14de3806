use mathlib.Core.Path.{◌≡◌, sym}
use mathlib.Core.Bool.{true}
use borrow.Author.Tests.{not-false}
use lib.ListN.{length}
use Rattle.voicing.specs.Space.{marks}
use Rattle.voicing.proofs.Doors.{mark-done}
use Rattle.std.proofs.Common.{ap}
use Rattle.std.proofs.Common.{not}
use Rattle.voicing.proofs.mark.Goals as goal
use Rattle.voicing.proofs.mark.Goals.{After-frames_in-n, Else-not-flagged-recorded}

module _ (c : Else-not-flagged-recorded) where
  -- the door stands open
  opened : marks c.args.u c.args.records.now c.args.durations.now (length c.args.flags.now) ≡ true
  opened = rw (sym c.flagged.ensures, sym c.has_room-recorded.ensures) (not-false _ (ap not c.if-not-flagged-recorded.false))

pub returns : goal.returns
returns c = let a = c.args in mark-done a.u a.records.now a.durations.now a.flags.now (opened (goal.at.returns c).Else-not-flagged-recorded) _ _ _ c.frames_in-n.ensures c.mark_states.ensures c.voiced.ensures
