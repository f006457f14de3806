use borrow.Author.Count.{below_more}
use borrow.Author.Tests.{not-true, not-false}
use native.Mathlib.Omega.{arith}
use lib.Ieee.{ne}
use Rattle.band.proofs.passes.next_tap.Goals as goal

pub loop-i-preserved : goal.loop-i-preserved
unfolding ne
loop-i-preserved c = below_more _ _ c.loop-i.invariant (λ h. not-false _ c.if-taps-i.false)

pub returns-then-taps-i : goal.returns-then-taps-i
unfolding ne
returns-then-taps-i c = record { behind = omega arith; inside = omega arith; zeros = c.loop-i.invariant; tap = λ h. not-true _ c.if-taps-i.true }
