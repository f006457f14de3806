use native.Mathlib.Omega.{arith}
use Rattle.steps.proofs.Packs.{puts_duration}
use Rattle.steps.proofs.pack.put_duration.Goals as goal

pub overflow_mul-work : goal.overflow_mul-work
overflow_mul-work c = omega (arith, c.slice_known-1.given c.args.p)

pub overflow_add-work : goal.overflow_add-work
overflow_add-work c = omega (arith, c.slice_known-1.given c.args.p)

pub returns : goal.returns
returns c = puts_duration c.args.work.now c.args.p c.args.d c.requires.1
