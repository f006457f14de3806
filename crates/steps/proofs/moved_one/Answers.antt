use mathlib.Core.Path.{sym, ap}
use mathlib.Core.Bool.{Bool}
use Prim.Native.Nat.{◌≤◌}
use native.Mathlib.Omega.{arith}
use Rattle.lists.specs.Sizes.{most_frames}
use Rattle.steps.specs.Steps.{moved}
use Rattle.steps.proofs.moved_one.Goals as goal

pub overflow_add-result : goal.overflow_add-result
overflow_add-result c = let h : c.args.d ≤ most_frames = rw c.if-up.true at c.requires in omega arith

pub returns-then-up : goal.returns-then-up
returns-then-up c = ap (λ (b : Bool). moved b c.args.d) (sym c.if-up.true)

pub overflow_sub-result : goal.overflow_sub-result
overflow_sub-result c = let h : 1 ≤ c.args.d = rw c.if-up.false at c.requires in omega arith

pub returns : goal.returns
returns c = ap (λ (b : Bool). moved b c.args.d) (sym c.if-up.false)
