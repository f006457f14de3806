use mathlib.Core.Path.{◌≡◌, sym, ap, ◌∙◌}
use Prim.Native.Nat.{◌+◌, ◌-◌, ◌<◌, ◌≤◌}
use native.Mathlib.Omega.{arith}
use borrow.Author.Tests.{not-true, not-false}
use lib.ListN.{length, get_or, take, drop, length-drop}
use lib.Seq.{length-take-le, get_or-take, get_or-drop}
use Rattle.lists.specs.Totals.{total}
use Rattle.voicing.proofs.Runs.{walking-fits, walking_on, walking-off, walked}
use Rattle.std.proofs.Common.{not}
use Rattle.voicing.proofs.flags.Frames.run_end.Goals as goal
use Rattle.voicing.proofs.flags.Frames.run_end.Goals.{In-loop-x}

module _ (c : In-loop-x) where
  -- the states from s on are states of the stream
  here : c.args.s + c.loop-x.x-index < length c.args.self.durations.now
  here = let n = length-drop c.args.s c.args.self.durations.now in omega (arith, c.loop-x-test.true, n, length-take-le (length c.args.self.durations.now - c.args.s) (drop c.args.s c.args.self.durations.now) (omega arith))

  same : get_or (take (length c.args.self.durations.now - c.args.s) (drop c.args.s c.args.self.durations.now)) c.loop-x.x-index 0 ≡ get_or c.args.self.durations.now (c.args.s + c.loop-x.x-index) 0
  same = get_or-take (length c.args.self.durations.now - c.args.s) (drop c.args.s c.args.self.durations.now) c.loop-x.x-index 0 (omega (arith, here)) ∙ get_or-drop c.args.s c.args.self.durations.now c.loop-x.x-index 0

  -- and so are their frames
  fits : c.loop-x.e + get_or (take (length c.args.self.durations.now - c.args.s) (drop c.args.s c.args.self.durations.now)) c.loop-x.x-index 0 ≤ total c.args.self.durations.now
  fits = walking-fits c.loop-x.invariant here same

pub returns-then-not-goes_on : goal.returns-then-not-goes_on
returns-then-not-goes_on c = let l = (goal.at.returns-then-not-goes_on c).In-loop-x in walking-off c.loop-x.invariant (here l) (same l) (sym (not-true _ (ap not c.if-not-goes_on.true)) ∙ c.goes_on.ensures)

pub loop-x-preserved : goal.loop-x-preserved
loop-x-preserved c =
    let l = (goal.at.loop-x-preserved c).In-loop-x in
    let z : c.args.s + (c.loop-x.x-index + 1) ≡ c.args.s + c.loop-x.x-index + 1 = omega arith in
    rw z (walking_on c.loop-x.invariant (here l) (same l) (sym (not-false _ (ap not c.if-not-goes_on.false)) ∙ c.goes_on.ensures))

pub goes_on-requires : goal.goes_on-requires
goes_on-requires c = omega (arith, fits (goal.at.goes_on-requires c).In-loop-x, c.args.self.flagged.room)

pub returns : goal.returns
returns c = walked c.loop-x.invariant (omega (arith, c.loop-x-test.false, length-drop c.args.s c.args.self.durations.now, length-take-le (length c.args.self.durations.now - c.args.s) (drop c.args.s c.args.self.durations.now) (omega (arith, length-drop c.args.s c.args.self.durations.now))))
