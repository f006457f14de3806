use Rattle.runs.proofs.Findings.{stands-first, found_first}
use Rattle.runs.proofs.states.States.first_run.Goals as goal

pub returns : goal.returns
returns c = let e = c.next_run.ensures in (e.0, found_first e.0 e.1 e.2)

pub next_run-requires : goal.next_run-requires
next_run-requires c = stands-first
