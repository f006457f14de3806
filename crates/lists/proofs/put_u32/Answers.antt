use Prim.Native.Nat.{◌+◌, ◌<◌}
use native.Mathlib.Omega.{arith}
use lib.ListN.{length, length-set}
use Rattle.lists.proofs.Bytes.{four-stored}
use Rattle.lists.proofs.put_u32.Goals as goal
use Rattle.lists.proofs.put_u32.Goals.{Else-n-at}

-- the four places are there
room : (c : Else-n-at) → c.args.at + 3 < length c.args.bytes.now
room c = omega (arith, c.if-n-at.false, c.if-n-lt4.false)

pub bounds-bytes-at-2 : goal.bounds-bytes-at-2
bounds-bytes-at-2 c = simp length-set (omega (arith, room (goal.at.bounds-bytes-at-2 c).Else-n-at))

pub bounds-bytes-at-3 : goal.bounds-bytes-at-3
bounds-bytes-at-3 c = simp length-set (omega (arith, room (goal.at.bounds-bytes-at-3 c).Else-n-at))

pub bounds-bytes-at-4 : goal.bounds-bytes-at-4
bounds-bytes-at-4 c = simp length-set (omega (arith, room (goal.at.bounds-bytes-at-4 c).Else-n-at))

pub returns : goal.returns
returns c = four-stored _ _ _
