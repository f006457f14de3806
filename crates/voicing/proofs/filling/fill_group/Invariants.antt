use lib.Ieee.{nan}
use Rattle.voicing.proofs.Fillings.{Filling}
use Rattle.voicing.proofs.filling.fill_group.Given as goal

abbrev pub invariant-loop-x : goal.invariant-loop-x
invariant-loop-x l = Filling l.other nan l.v l.c.first l.c.lanes l.size l.values l.m.durations.now l.m.flags.now l.work l.initial.out l.out l.x-index l.f l.k l.p
