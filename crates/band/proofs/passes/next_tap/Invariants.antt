use mathlib.Core.Path.{◌≡◌}
use mathlib.Core.Bool.{true}
use Prim.Native.Nat.{ℕ, ◌<◌, ◌≤◌}
use lib.Ieee.{eq}
use Rattle.floats.specs.Numbers.{nought}
use Rattle.region.specs.Rows.{elem}
use Rattle.band.proofs.passes.next_tap.Given as goal

-- all before place i are zero
abbrev pub invariant-loop-i : goal.invariant-loop-i
invariant-loop-i l = (c : ℕ) → c < l.i → l.from ≤ c → eq (elem l.taps c) nought ≡ true
