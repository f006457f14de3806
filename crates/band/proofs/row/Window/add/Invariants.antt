use Rattle.band.proofs.Windows.{Added}
use Rattle.band.proofs.row.Window.add.Given as goal

-- the terms of the frames below f are added
abbrev pub invariant-loop-f : goal.invariant-loop-f
invariant-loop-f l = Added l.self.taps.now l.self.ivars.now l.self.means.now l.t l.initial.row l.right l.f l.row l.sum
