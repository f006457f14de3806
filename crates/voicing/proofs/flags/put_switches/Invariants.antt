use lib.ListN.{length}
use Rattle.voicing.proofs.Switches.{Switching}
use Rattle.voicing.proofs.flags.put_switches.Given as goal

abbrev pub invariant-loop-x : goal.invariant-loop-x
invariant-loop-x l = Switching l.durations l.switches l.initial.flags l.flags (length l.yielded) l.f l.k
