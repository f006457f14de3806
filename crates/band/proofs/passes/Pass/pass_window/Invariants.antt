use Rattle.band.specs.Inner.Passes.{Moved}
use Rattle.band.proofs.Taps.{entries_to, sides_to}
use Rattle.band.proofs.passes.Pass.pass_window.Given as goal

-- the taps from k on are done
abbrev pub invariant-loop-k : goal.invariant-loop-k
invariant-loop-k l = Moved l.self.b (entries_to l.self.b l.self.taps.now l.self.u l.self.mean l.initial.m l.k) (sides_to l.self.b l.self.taps.now l.self.u l.self.mean l.initial.m l.k) l.initial.m l.m
