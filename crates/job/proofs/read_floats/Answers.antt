use mathlib.Core.Path.{refl}
use Prim.Native.Nat.{ℕ, ◌+◌, ◌*◌}
use native.Mathlib.Omega.{arith}
use lib.ListN.{length}
use lib.Ieee.{nan}
use Rattle.lists.specs.Build.{build}
use Rattle.lists.proofs.Fills.{build-next, build-done}
use Rattle.job.specs.Format.{float_at, floats_at}
use Rattle.job.proofs.read_floats.Goals as goal
use Rattle.job.proofs.read_floats.Goals.{In-loop-i}

pub loop-i-init : goal.loop-i-init
unfolding build
loop-i-init c = refl

pub loop-i-preserved : goal.loop-i-preserved
loop-i-preserved c =
    let a = c.args in
    let l = c.loop-i in
    build-next (λ (k : ℕ). float_at a.bytes.now (a.from + a.step * k)) a.into.now l.into l.i _ nan (omega arith) c.of_bytes.ensures l.invariant

pub returns : goal.returns
unfolding floats_at
returns c =
    let a = c.args in
    let l = c.loop-i in
    build-done (λ (k : ℕ). float_at a.bytes.now (a.from + a.step * k)) a.into.now l.into l.i (length a.into.now) (omega arith) (omega arith) l.invariant
