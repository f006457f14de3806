use native.Mathlib.Omega.{arith}
use Rattle.lists.proofs.Fronts.{none_yet, alike-done, alike-stops, alike_next}
use Rattle.lists.proofs.alike.Goals as goal

pub loop-i-init : goal.loop-i-init
loop-i-init c = none_yet _ _

pub bounds-bytes-i : goal.bounds-bytes-i
bounds-bytes-i c = omega arith

pub bounds-front-i : goal.bounds-front-i
bounds-front-i c = omega arith

pub returns-then-bytes-i : goal.returns-then-bytes-i
returns-then-bytes-i c = let d = c.before.before.before.before in alike-stops d.min-n.ensures d.loop-i.invariant c.loop-i-test.true c.if-bytes-i.true

pub loop-i-preserved : goal.loop-i-preserved
loop-i-preserved c = let d = c.before.before.before.before in alike_next d.min-n.ensures d.loop-i.invariant c.loop-i-test.true c.if-bytes-i.false

pub returns : goal.returns
returns c = alike-done c.min-n.ensures c.loop-i.invariant c.loop-i-test.false
