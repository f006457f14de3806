use mathlib.Core.Path.{◌≡◌}
use mathlib.Core.List.{List}
use Prim.Native.Nat.{ℕ}
use denote.Ref.{Bor}
use lib.ListN.{length}
use lib.Ieee.{Float}
use Rattle.region.specs.Region.{region_at}
use Rattle.gv.specs.Gv.{gradient_at}
use Rattle.gv.specs.Inner.Turns.{Graded}
use Rattle.gv.proofs.gradient.grade_rows.Given as goal

abbrev pub invariant-loop-t : goal.invariant-loop-t
invariant-loop-t g l =
    (length l.m ≡ length l.initial.m) × ((d : List Float)
    → ((b : Bor (List Float)) (t : ℕ) (x : Float) → goal.F-post g l.f b t x → x ≡ gradient_at l.w (region_at l.p l.n l.w b.now).matrix (region_at l.p l.n l.w b.now).values t)
    → Graded l.p l.n l.w l.weight d l.initial.m l.from l.hmm → Graded l.p l.n l.w l.weight d l.m l.t l.sum)
