use Rattle.settings.specs.Inner.Lent.{lent}
use Rattle.settings.proofs.Writing.{Putting}
use Rattle.settings.proofs.file.put_entries.Given as goal

abbrev pub invariant-loop-place : goal.invariant-loop-place
invariant-loop-place l = Putting (lent l.store) l.initial.out l.out l.at l.place
