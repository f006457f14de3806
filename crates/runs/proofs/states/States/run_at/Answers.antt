use native.Mathlib.Omega.{arith}
use Rattle.runs.proofs.Findings.{found-next}
use Rattle.runs.proofs.states.States.run_at.Goals as goal

pub loop-number-preserved : goal.loop-number-preserved
loop-number-preserved c =
    let v = c.loop-number.invariant in
    let e = c.next_run-found.ensures in
    (found-next v.0 (omega (arith, c.if-frames-eq0.false, c.frames.ensures)) (omega (arith, e.0, v.1)) e.1 e.2, e.0)
