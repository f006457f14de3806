use Prim.Native.Nat.{◌<◌}
use native.Mathlib.Omega.{arith}
use Rattle.read_along.specs.Format.{count_of}
use Rattle.read_along.proofs.Filing.{taking, taking-next, taking-done}
use Rattle.read_along.proofs.file.take_spans.Goals as goal
use Rattle.read_along.proofs.file.take_spans.Goals.{In-loop-i}

-- a turn of the loop
more : (c : In-loop-i) → c.loop-i.i < count_of c.args.bytes.now
more c = omega (arith, c.loop-i-test.true, c.requires.0)

pub loop-i-preserved : goal.loop-i-preserved
loop-i-preserved c =
    taking-next _ c.loop-i.invariant (more (goal.at.loop-i-preserved c).In-loop-i) _ _ c.little_u32-first.ensures c.little_u32-after.ensures _ c.put_span.ensures

pub returns : goal.returns
returns c = taking-done _ c.loop-i.invariant (omega (arith, c.loop-i-test.false, c.requires.0))

pub loop-i-init : goal.loop-i-init
loop-i-init c = taking _ _
