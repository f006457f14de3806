use mathlib.Core.Path.{◌≡◌}
use Prim.Native.Nat.{◌+◌, ◌*◌, ◌<◌}
use native.Mathlib.Omega.{arith}
use lib.ListN.{length}
use Rattle.runs.proofs.Findings.{found-next, writing-some, writing-next, written, stands-most}
use Rattle.runs.proofs.states.States.write.Goals as goal

pub overflow_cast-out : goal.overflow_cast-out
overflow_cast-out c = omega (arith, stands-most c.loop-number.invariant.found.begins, c.args.self.recorded.frames)

pub overflow_cast-out-in-loop-number : goal.overflow_cast-out-in-loop-number
overflow_cast-out-in-loop-number c = omega (arith, c.frames.ensures, stands-most c.loop-number.invariant.found.ends.stands, c.args.self.recorded.frames)

pub loop-number-preserved : goal.loop-number-preserved
loop-number-preserved c =
    let l = c.loop-number in
    let t : 2 * l.number < length l.out = omega (arith, c.loop-number-test.true, l.auto.out) in
    let k : 2 * l.number + 2 ≡ 2 * (l.number + 1) = omega arith in
    let e = c.next_run-found.ensures in
    let o : c.next_run-found.result.number ≡ l.found.number + 1 = omega (arith, e.0, l.invariant.twice) in
    rw k at (writing-next l.invariant _ t c.frames.ensures o (found-next l.invariant.found (writing-some l.invariant t) o e.1 e.2))

pub returns : goal.returns
returns c = written c.loop-number.invariant (omega (arith, c.loop-number-test.false, c.loop-number.auto.out, c.requires))
