use Prim.Native.Nat.{◌<◌}
use native.Mathlib.Omega.{arith}
use Rattle.lists.specs.Bytes.{Bytes}
use Rattle.read_along.specs.Format.{count_of}
use Rattle.read_along.proofs.Filing.{number-below, touch-next, touch-stops, touch-done}
use Rattle.read_along.proofs.file.touch.Goals as goal
use Rattle.read_along.proofs.file.touch.Goals.{In-loop-i}

-- a turn of the loop
module _ (c : In-loop-i) where
  more : c.loop-i.i < count_of c.args.bytes.now
  more = omega (arith, c.loop-i-test.true, c.requires)

  small : c.loop-i.i < 4294967296
  small =
      let b : Bytes c.args.bytes.now = λ j. omega (arith, c.type_inv.bytes j) in
      omega (arith, c.loop-i-test.true, number-below c.args.bytes.now b _ 5 c.requires)

pub returns-then-first-end : goal.returns-then-first-end
returns-then-first-end c =
    touch-stops _ c.loop-i.invariant (more (goal.at.returns-then-first-end c).In-loop-i) _ _ c.little_u32-first.ensures c.little_u32-after.ensures c.if-first-end.true

pub loop-i-preserved : goal.loop-i-preserved
loop-i-preserved c =
    touch-next _ c.loop-i.invariant (more (goal.at.loop-i-preserved c).In-loop-i) _ _ c.little_u32-first.ensures c.little_u32-after.ensures c.if-first-end.false

pub returns : goal.returns
returns c = touch-done _ c.loop-i.invariant (omega (arith, c.loop-i-test.false, c.requires))

pub overflow_mul-at : goal.overflow_mul-at
overflow_mul-at c = record { fits = omega (arith, small (goal.at.overflow_mul-at c).In-loop-i) }

pub overflow_add-at : goal.overflow_add-at
overflow_add-at c = record { fits = omega (arith, small (goal.at.overflow_add-at c).In-loop-i) }

pub overflow_add-at-in-loop-i : goal.overflow_add-at-in-loop-i
overflow_add-at-in-loop-i c = record { fits = omega (arith, small (goal.at.overflow_add-at-in-loop-i c).In-loop-i) }
