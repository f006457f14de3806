use mathlib.Core.Path.{◌≡◌, refl}
use mathlib.Core.List.{map}
use native.Mathlib.Omega.{arith}
use lib.ListN.{length-set}
use Rattle.lists.specs.Build.{build}
use Rattle.lists.specs.Flags.{is_on}
use Rattle.gv.proofs.Turns.{step-next}
use Rattle.gv.proofs.MlpgGlobalVariance.next_step.Goals as goal

pub loop-t-init : goal.loop-t-init
unfolding build
loop-t-init c = (refl, refl)

pub step_at-x-requires : goal.step_at-x-requires
step_at-x-requires c = let q = c.requires in (rw c.loop-t.invariant.0 q.0, q.1, omega arith)

pub loop-t-preserved : goal.loop-t-preserved
loop-t-preserved c =
    let l = c.loop-t in
    (simp length-set l.invariant.0, step-next c.args.self c.args.p c.args.m.now c.requires.0 (map is_on c.args.on.now) c.args.s l.m l.t _ (omega arith) l.invariant.1 c.step_at-x.ensures)

pub returns : goal.returns
returns c = let e : c.loop-t.t ≡ c.args.self.length = omega arith in rw e at c.loop-t.invariant.1
