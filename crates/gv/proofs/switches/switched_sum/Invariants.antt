use mathlib.Core.Path.{◌≡◌}
use lib.Ieee.{Float}
use Rattle.gv.proofs.Switched.{Summing}
use Rattle.gv.proofs.switches.switched_sum.Given as goal

abbrev pub invariant-loop-t : goal.invariant-loop-t
invariant-loop-t g l = (f : Float → Float) → ((x y : Float) → goal.F-post g l.term x y → y ≡ f x) → Summing f l.on l.par l.t l.sum
