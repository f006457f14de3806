use mathlib.Core.Path.{◌≡◌, ◌∙◌}
use Prim.Native.Nat.{◌≤◌}
use native.Mathlib.Omega.{arith}
use borrow.Author.Tests.{lt-ltb, le-ltb}
use lib.ListN.{length}
use Rattle.lists.specs.Totals.{total}
use Rattle.lists.proofs.Sums.{total-whole}
use Rattle.voicing.proofs.Ways.{frames_3, frames_4, frames_5, frames_0}
use Rattle.voicing.proofs.mask.frames_of.Goals as goal
use Rattle.voicing.proofs.mask.frames_of.Goals.{After-total_u32-frames}

-- the list is short enough for its whole total
sum : (c : After-total_u32-frames) → c.total_u32-frames.result ≡ total c.args.durations.now
sum c = let few : length c.args.durations.now ≤ 4294967296 = omega (arith, c.if-durations-gt4096.false) in c.total_u32-frames.ensures ∙ total-whole _ few

pub returns-then-durations-gt4096 : goal.returns-then-durations-gt4096
returns-then-durations-gt4096 c = let s = c.args in rw (frames_3 s.weights s.durations.now c.if-durations-gt4096.true)

pub returns-then-weights-durations : goal.returns-then-weights-durations
returns-then-weights-durations c = let s = c.args in rw (frames_4 s.weights s.durations.now c.if-durations-gt4096.false c.if-weights-durations.true)

pub returns-then-frames-gt65536 : goal.returns-then-frames-gt65536
returns-then-frames-gt65536 c = let s = c.args in let t = sum (goal.at.returns-then-frames-gt65536 c).After-total_u32-frames in rw (frames_5 s.weights s.durations.now c.if-durations-gt4096.false c.if-weights-durations.false (omega (arith, t, c.if-frames-gt65536.true)))

pub returns-then-room-frames : goal.returns-then-room-frames
returns-then-room-frames c = let s = c.args in let t = sum (goal.at.returns-then-room-frames c).After-total_u32-frames in rw (frames_0 s.weights s.durations.now c.if-durations-gt4096.false c.if-weights-durations.false (omega (arith, t, c.if-frames-gt65536.false)), lt-ltb s.room (total s.durations.now) (omega (arith, t, c.if-room-frames.true)))

pub returns : goal.returns
returns c = let s = c.args in let t = sum (goal.at.returns c).After-total_u32-frames in rw (frames_0 s.weights s.durations.now c.if-durations-gt4096.false c.if-weights-durations.false (omega (arith, t, c.if-frames-gt65536.false)), le-ltb s.room (total s.durations.now) (omega (arith, t, c.if-room-frames.false)), t)
