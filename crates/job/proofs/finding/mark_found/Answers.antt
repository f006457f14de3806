use Rattle.job.proofs.Damages.{mark_wrong, mark-sound}
use Rattle.job.proofs.finding.mark_found.Goals as goal

pub returns-then-alike-lt3 : goal.returns-then-alike-lt3
returns-then-alike-lt3 c = mark_wrong _ _ _ c.alike-alike.ensures c.if-alike-lt3.true (rw c.damaged.ensures at c.found_to.ensures)

pub returns : goal.returns
returns c = mark-sound _ _ c.alike-alike.ensures c.if-alike-lt3.false
