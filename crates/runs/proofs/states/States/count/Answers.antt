use native.Mathlib.Omega.{arith}
use Rattle.runs.proofs.Findings.{runs-most, found_all}
use Rattle.runs.proofs.states.States.count.Goals as goal

pub returns : goal.returns
returns c =
    let e = c.run_at-last.ensures in
    found_all e.0 65536 (omega (arith, c.args.self.recorded.frames, runs-most c.args.self.voicing.size c.args.self.records.now c.args.self.voicing.threshold c.args.self.durations.now)) e.2
