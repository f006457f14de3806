use mathlib.Core.Path.{◌≡◌}
use mathlib.Core.Bool.{false}
use Prim.Native.Nat.{◌-◌, ◌<◌, ◌≤◌}
use lib.ListN.{length}
use lib.Ieee.{eq}
use Rattle.floats.specs.Numbers.{nought}
use Rattle.region.specs.Rows.{elem}
use Rattle.band.specs.Inner.Passes.{Moved, still, in_columns, tap_column}
use Rattle.band.proofs.passes.Pass.add_columns.Given as goal

-- the columns before j are done, and j has a tap
abbrev pub invariant-loop-j : goal.invariant-loop-j
invariant-loop-j l = (l.j ≤ length l.self.taps.now) × (l.j < length l.self.taps.now → eq (elem l.self.taps.now l.j) nought ≡ false) × Moved l.self.b (in_columns 0 l.j (tap_column l.self.taps.now l.self.u l.self.b l.initial.m)) still l.initial.m l.m

abbrev pub decreases-loop-j : goal.decreases-loop-j
decreases-loop-j l = length l.self.taps.now - l.j
