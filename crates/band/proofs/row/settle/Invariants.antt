use mathlib.Core.Path.{◌≡◌}
use Rattle.band.proofs.row.settle.Given as goal

-- every number is as it was
abbrev pub invariant-loop-x : goal.invariant-loop-x
invariant-loop-x l = l.row ≡ l.initial.row
