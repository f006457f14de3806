use mathlib.Core.Path.{refl}
use Rattle.lists.proofs.Flags.{both}
use Rattle.model.specs.Clamps.{is_high, is_low}
use Rattle.model.proofs.Clamps.{between_no, counted_no, counted-all}
use Rattle.model.proofs.voice.model.all_between.Goals as goal

pub loop-vari-preserved : goal.loop-vari-preserved
loop-vari-preserved c e =
    let p = both _ _ e in
    let q = both _ _ p.0 in
    let none = between_no _ q.1 p.1 in
    let t = c.loop-vari-test.true in
    let k = c.loop-vari.invariant q.0 in
    (counted_no is_high _ _ _ k.0 t refl none, counted_no is_low _ _ _ k.1 t refl none)

pub returns : goal.returns
returns c e =
    let k = c.loop-vari.invariant e in
    rw (← (counted-all is_high _ _ _ k.0 c.loop-vari-test.false), ← (counted-all is_low _ _ _ k.1 c.loop-vari-test.false))
