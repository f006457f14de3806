use Prim.Native.Nat.{◌^◌, ◌<◌}
use native.Mathlib.Omega.{arith}
use Rattle.floats.proofs.Squares.{taken, left_out, root-small, rounds-up, rounds-down}
use Rattle.floats.proofs.nearest_root.Goals as goal
use Rattle.floats.proofs.nearest_root.Goals.{At-loop-turn, then-trial-next, else-trial-next}

small : (c : At-loop-turn) → c.loop-turn.root < 2 ^ 53
small c = root-small c.args.d c.loop-turn.root c.loop-turn.left c.loop-turn.rest c.loop-turn._turn c.loop-turn.invariant

pub overflow_mul-next : goal.overflow_mul-next
overflow_mul-next c = omega (arith, small (goal.at.overflow_mul-next c).At-loop-turn)

pub overflow_add-next : goal.overflow_add-next
overflow_add-next c = omega (arith, small (goal.at.overflow_add-next c).At-loop-turn)

pub overflow_mul-trial : goal.overflow_mul-trial
overflow_mul-trial c = omega (arith, small (goal.at.overflow_mul-trial c).At-loop-turn)

pub overflow_add-trial : goal.overflow_add-trial
overflow_add-trial c = omega (arith, small (goal.at.overflow_add-trial c).At-loop-turn)

pub loop-turn-preserved : goal.loop-turn-preserved
loop-turn-preserved c =
    let l = c.loop-turn in
    elim c.if-trial-next.branch [
      | then-trial-next w ↦ rw (w.left-is, w.root-is) (taken c.args.d l.root l.left l.rest l._turn l.invariant c.loop-turn-test.true w.if-trial-next.true)
      | else-trial-next w ↦ rw (w.left-is, w.root-is) (left_out c.args.d l.root l.left l.rest l._turn l.invariant c.loop-turn-test.true w.if-trial-next.false)
    ]

pub returns-then-left-root : goal.returns-then-left-root
returns-then-left-root c =
    let a = c.before.before in
    rounds-up a.args.d a.loop-turn.root a.loop-turn.left a.loop-turn.rest a.loop-turn._turn a.before.requires a.loop-turn.invariant c.loop-turn-test.false c.if-left-root.true

pub returns : goal.returns
returns c =
    let a = c.before.before in
    rounds-down a.args.d a.loop-turn.root a.loop-turn.left a.loop-turn.rest a.loop-turn._turn a.before.requires a.loop-turn.invariant c.loop-turn-test.false c.if-left-root.false
