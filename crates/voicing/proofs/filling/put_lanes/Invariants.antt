use mathlib.Core.Path.{◌≡◌}
use Prim.Native.Nat.{ℕ, ◌<◌}
use lib.Ieee.{Float}
use Rattle.lists.specs.Build.{build}
use Rattle.voicing.specs.Inner.Lanes.{sets_lanes}
use Rattle.voicing.proofs.filling.put_lanes.Given as goal

abbrev pub invariant-loop-l : goal.invariant-loop-l
invariant-loop-l g l =
    (x : ℕ → ℕ → Float) → ((i j : ℕ) (y : Float) → i < l.c.lanes → j < l.d → goal.F-post g l.number i j y → y ≡ x i j) → l.out ≡ sets_lanes l.c.v l.p (λ i. build (x i) l.d) l.l l.initial.out
