use mathlib.Core.Path.{refl}
use native.Mathlib.Omega.{arith}
use Rattle.voicing.specs.declared.Voicing.{Voicing}
use Rattle.mlpg_adjust.proofs.Ways.{frames_are}
use Rattle.mlpg_adjust.proofs.Marks.{few, flagged_so, planned}
use Rattle.mlpg_adjust.proofs.render.plan_of.Goals as goal

pub overflow_cast-layout : goal.overflow_cast-layout
overflow_cast-layout c =
    let n = few _ _ _ _ _ c.requires.0 (record { size = c.record_size-size.result; threshold = c.args.stream.threshold }) c.record_size-size.ensures refl _ _ _ c.requires.1 c.mark-n.ensures in
    omega (arith, n)

pub returns : goal.returns
returns c =
    let u : Voicing = record { size = c.record_size-size.result; threshold = c.args.stream.threshold } in
    let e = c.record_size-size.ensures in
    let m = c.mark-n.ensures in
    (planned _ _ _ _ _ c.requires.0 u e refl _ _ _ c.requires.1 m _ _ _ refl c.band_width-w.ensures (frames_are _ _ c.total_u32-frames.ensures c.requires.0.few), flagged_so _ _ _ _ _ c.requires.0 u e refl _ _ _ c.requires.1 m)
