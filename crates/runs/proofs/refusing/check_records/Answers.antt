use Prim.Native.Nat.{◌≤◌}
use native.Mathlib.Nat.{mul-le-mul_left}
use native.Mathlib.Omega.{arith}
use lib.Dec.{ltb}
use lib.ListN.{length}
use borrow.Author.Tests.{ltb-false}
use Rattle.lists.proofs.Flags.{neither}
use Rattle.mlpg_adjust.proofs.Ways.{InRange, in_range, size_small}
use Rattle.runs.proofs.Ways.{refused_1, refused_3, refused_4, refused_5, refused_none}
use Rattle.runs.proofs.refusing.check_records.Goals as goal
use Rattle.runs.proofs.refusing.check_records.Goals.{Else-durations-v}

pub returns-then-windows : goal.returns-then-windows
returns-then-windows c = refused_1 _ _ _ _ _ c.if-windows.true

pub returns-then-durations-v : goal.returns-then-durations-v
returns-then-durations-v c = refused_3 _ _ _ _ _ c.if-windows.false c.if-durations-v.true

-- what 1 and 3 leave
module _ (c : Else-durations-v) where
  few : (c.args.windows ≤ 4) × InRange c.args.v (length c.args.durations.now)
  few = (ltb-false 4 c.args.windows (neither (ltb c.args.windows 1) (ltb 4 c.args.windows) c.if-windows.false).1, in_range c.args.v (length c.args.durations.now) c.if-durations-v.false)

pub overflow_mul-durations : goal.overflow_mul-durations
overflow_mul-durations c =
    let a = c.args in
    let f = few (goal.at.overflow_mul-durations c).Else-durations-v in
    let m : c.record_size.result ≤ 513 = rw c.record_size.ensures (size_small a.v a.windows a.masked f.1.most_v f.0) in
    omega (arith, f.1.few, mul-le-mul_left (length a.durations.now) m)

pub returns-then-records-durations : goal.returns-then-records-durations
returns-then-records-durations c = refused_4 _ _ _ _ _ c.if-windows.false c.if-durations-v.false _ c.record_size.ensures c.if-records-durations.true

pub returns-then-total_u32-gt65536 : goal.returns-then-total_u32-gt65536
returns-then-total_u32-gt65536 c = refused_5 _ _ _ _ _ c.if-windows.false c.if-durations-v.false _ c.record_size.ensures c.if-records-durations.false _ c.total_u32.ensures c.if-total_u32-gt65536.true

pub returns : goal.returns
returns c = refused_none _ _ _ _ _ c.if-windows.false c.if-durations-v.false _ c.record_size.ensures c.if-records-durations.false _ c.total_u32.ensures c.if-total_u32-gt65536.false
