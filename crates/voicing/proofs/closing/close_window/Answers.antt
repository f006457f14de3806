use mathlib.Core.Path.{◌≡◌, ap, ◌∙◌}
use Prim.Native.Nat.{◌+◌, ◌*◌, ◌-◌}
use native.Mathlib.Nat.{add-mul}
use native.Mathlib.Omega.{arith}
use borrow.Rule.Slice.PartMut.{mid_of}
use Rattle.model.specs.declared.mean_vari.Inverted.{Inverted}
use Rattle.voicing.specs.Inner.States.{put_pair}
use Rattle.region.proofs.Across.{passing-next}
use Rattle.voicing.proofs.closing.close_window.Goals as goal
use Rattle.voicing.proofs.closing.close_window.Goals.{In-loop-l}

pub loop-l-preserved : goal.loop-l-preserved
loop-l-preserved c =
    let s = c.args in
    let l = c.loop-l in
    let e : (l.l + 1) * s.p.size ≡ l.l * s.p.size + s.p.size = omega (arith, add-mul l.l 1 s.p.size) in
    rw e (passing-next l.invariant c.loop-l-test.true _ c.put_pair.auto.region
    (c.put_pair.ensures
    ∙ ap (λ (x : Inverted). put_pair s.e s.at (s.p.ivars + s.at) x.pair.0 x.pair.1 (mid_of (l.l * s.p.size) (l.l * s.p.size + s.p.size - l.l * s.p.size) l.work)) c.with_ivar-inverted.ensures))
