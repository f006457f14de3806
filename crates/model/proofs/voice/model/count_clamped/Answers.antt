use Rattle.std.proofs.Common.{arith}
use Rattle.model.specs.Clamps.{is_high, is_low}
use Rattle.model.proofs.Clamps.{counted_next, counted-few, counted-all}
use Rattle.model.proofs.voice.model.count_clamped.Goals as goal

pub overflow_add-high : goal.overflow_add-high
overflow_add-high c = omega (arith, counted-few is_high _ _ _ c.loop-vari.invariant.0 c.loop-vari-test.true _ c.of-clamp.ensures _ c.high-high.ensures)

pub overflow_add-low : goal.overflow_add-low
overflow_add-low c = omega (arith, counted-few is_low _ _ _ c.loop-vari.invariant.1 c.loop-vari-test.true _ c.of-clamp.ensures _ c.low-low.ensures)

pub loop-vari-preserved : goal.loop-vari-preserved
loop-vari-preserved c =
    let l = c.loop-vari in
    let t = c.loop-vari-test.true in
    let o = c.of-clamp.ensures in
    (counted_next is_high _ _ _ l.invariant.0 t _ o _ c.high-high.ensures, counted_next is_low _ _ _ l.invariant.1 t _ o _ c.low-low.ensures)

pub returns : goal.returns
returns c =
    let l = c.loop-vari in
    rw (counted-all is_high _ _ _ l.invariant.0 c.loop-vari-test.false, counted-all is_low _ _ _ l.invariant.1 c.loop-vari-test.false)
