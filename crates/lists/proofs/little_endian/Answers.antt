use Rattle.std.proofs.Common.{◌≡◌, ◌∙◌, ◌≤◌, ◌<◌, ◌+◌, ◌-◌, ◌*◌, ◌^◌, length, arith}
use Rattle.std.proofs.Math.ListN.{length-take}
use Rattle.lists.proofs.Bytes.{little-past, reading, reading-next, reading-fits}
use Rattle.lists.proofs.little_endian.Goals as goal
use Rattle.lists.proofs.little_endian.Goals.{In-loop-i}

-- eight bytes at most
room : (c : In-loop-i) → (c.loop-i.number * 256 + 255 < 2 ^ 64) × (c.loop-i.number * 256 < 2 ^ 64)
room c =
    let b : length c.part-said.result.now ≤ 8 = rw (c.part-said.ensures.numbers, length-take) (omega (arith, c.min.ensures)) in
    reading-fits c.loop-i.invariant c.loop-i-test.true c.loop-i.auto.i b

pub returns-then-bytes-at : goal.returns-then-bytes-at
returns-then-bytes-at c = little-past _ _ _ c.if-bytes-at.true

pub overflow_mul-number : goal.overflow_mul-number
overflow_mul-number c = omega (arith, room (goal.at.overflow_mul-number c).In-loop-i)

pub overflow_add-number : goal.overflow_add-number
overflow_add-number c = omega (arith, room (goal.at.overflow_add-number c).In-loop-i, c.type_inv.said (c.loop-i.i - 1))

pub loop-i-init : goal.loop-i-init
loop-i-init c = reading _

pub loop-i-preserved : goal.loop-i-preserved
loop-i-preserved c = reading-next c.loop-i.invariant c.loop-i-test.true c.loop-i.auto.i _ (omega (arith, c.from.ensures, c.type_inv.said (c.loop-i.i - 1))) c.from.ensures

pub returns : goal.returns
returns c =
    let z : c.loop-i.i ≡ 0 = omega arith in
    c.loop-i.invariant.said ∙ rw (z, c.part-said.ensures.numbers, c.min.ensures)
