use Rattle.voicing.proofs.Groups.{Gathering}
use Rattle.voicing.proofs.closing.close_group.Given as goal

abbrev pub invariant-loop-s : goal.invariant-loop-s
invariant-loop-s l = Gathering l.size l.records l.widths l.m.durations.now l.m.flags.now l.p l.first l.initial.work l.work l.s l.f l.k l.begin l.end
