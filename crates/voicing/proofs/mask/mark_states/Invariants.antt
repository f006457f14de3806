use lib.ListN.{length}
use Rattle.voicing.specs.Mask.{weights_of}
use Rattle.lists.proofs.Expansions.{Expanding}
use Rattle.voicing.proofs.Theory.{state_flags}
use Rattle.voicing.proofs.mask.mark_states.Given as goal

abbrev pub invariant-loop-s : goal.invariant-loop-s
invariant-loop-s l = Expanding l.durations (state_flags l.u.threshold (weights_of l.u.size l.records (length l.durations))) l.initial.out l.out l.s l.f
