use mathlib.Core.Path.{refl}
use Rattle.job.proofs.Old.{old_damage_is, old_stays}
use Rattle.job.proofs.old_number.Goals as goal

pub returns-then-number : goal.returns-then-number
returns-then-number c = old_damage_is _ _ refl c.if-number.true

pub returns : goal.returns
returns c = old_stays _ _ refl c.if-number.false
