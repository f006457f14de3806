use mathlib.Core.Path.{refl}
use Prim.Native.Nat.{ℕ, ◌+◌, ◌*◌}
use native.Mathlib.Omega.{arith}
use lib.ListN.{length}
use Rattle.lists.specs.Build.{build}
use Rattle.lists.proofs.Fills.{build-next, build-done}
use Rattle.job.specs.Format.{number_at, numbers_behind}
use Rattle.job.proofs.read_numbers.Goals as goal

pub loop-i-init : goal.loop-i-init
unfolding build
loop-i-init c = refl

pub loop-i-preserved : goal.loop-i-preserved
loop-i-preserved c =
    let a = c.args in
    let l = c.loop-i in
    build-next (λ (k : ℕ). number_at a.bytes.now (31 + 20 * k)) a.into.now l.into l.i _ 0 (omega arith) c.little_u32.ensures l.invariant

pub returns : goal.returns
unfolding numbers_behind
returns c =
    let a = c.args in
    let l = c.loop-i in
    build-done (λ (k : ℕ). number_at a.bytes.now (31 + 20 * k)) a.into.now l.into l.i (length a.into.now) (omega arith) (omega arith) l.invariant
