-- Two outcomes that the promise allows are equal.
use mathlib.Core.Path.{◌≡◌, sym, ◌∙◌}
use mathlib.Core.List.{List}
use Prim.Native.Nat.{ℕ}
use lib.Ieee.{Float}
use Rattle.region.specs.declared.Layout.{Layout}
use Rattle.gv.specs.Promise.{VarySays}

pub vary_one : (g : Layout) (on : List ℕ) (means varis : List Float) (weight : Float) (work a b : List Float) → VarySays g on means varis weight work a → VarySays g on means varis weight work b → a ≡ b
vary_one g on means varis weight work a b p q = p.space ∙ sym q.space
