use mathlib.Core.Path.{◌≡◌}
use Prim.Native.Nat.{ℕ, ◌+◌, ◌*◌, ◌<◌}
use lib.ListN.{drop}
use lib.Ieee.{Float}
use Rattle.lists.specs.Build.{build}
use Rattle.voicing.specs.Inner.Lanes.{sets_by}
use Rattle.voicing.proofs.filling.put_column.Given as goal

abbrev pub invariant-loop-j : goal.invariant-loop-j
invariant-loop-j g l =
    (l.q ≡ l.p + l.j * l.v)
    × ((x : ℕ → Float) → ((j : ℕ) (y : Float) → j < l.d → goal.F-post g l.number l.l j y → y ≡ x j) → sets_by l.v l.q (drop l.j (build x l.d)) l.out ≡ sets_by l.v l.p (build x l.d) l.initial.out)
