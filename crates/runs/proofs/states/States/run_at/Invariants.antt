use mathlib.Core.Path.{◌≡◌}
use Rattle.runs.specs.Inner.Lent.{mask_in}
use Rattle.runs.specs.Inner.Finding.{FoundAt}
use Rattle.runs.proofs.states.States.run_at.Given as goal

abbrev pub invariant-loop-number : goal.invariant-loop-number
invariant-loop-number l = FoundAt l.self.durations.now (mask_in l.self) l.found × (l.found.number ≡ l.number)
