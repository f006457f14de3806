use mathlib.Core.Path.{◌≡◌}
use Rattle.lists.specs.Build.{over}
use Rattle.band.proofs.Columns.{multiplied}
use Rattle.band.proofs.passes.Pass.add_terms.Given as goal

-- the right side has the terms of t rows
abbrev pub invariant-loop-t : goal.invariant-loop-t
invariant-loop-t l = l.m ≡ over (multiplied l.at l.self.u l.self.mean l.c) l.t l.initial.m
