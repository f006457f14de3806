use native.Mathlib.Omega.{arith}
use Rattle.steps.proofs.Packs.{inner_place, leaf-place}
use Rattle.steps.proofs.pack.place_at.Goals as goal

pub overflow_cast-result : goal.overflow_cast-result
overflow_cast-result c = omega (arith, c.shared_slice_known-1.given c.args.i)

pub returns-then-i-work : goal.returns-then-i-work
returns-then-i-work c = inner_place c.args.work.now c.args.i c.if-i-work.true

pub returns : goal.returns
returns c = leaf-place c.args.work.now c.args.i c.if-i-work.false
