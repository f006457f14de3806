-- The solver's answer is one: two outcomes that its promise allows are equal.
use mathlib.Core.Path.{◌≡◌, sym, ◌∙◌}
use mathlib.Core.List.{List}
use Prim.Native.Nat.{ℕ}
use lib.Ieee.{Float}
use Rattle.region.specs.declared.Layout.{Layout}
use Rattle.solve.specs.Promise.{SolveSays}

pub solve_one : (g : Layout) (lanes : ℕ) (work a b : List Float) → SolveSays g lanes work a → SolveSays g lanes work b → a ≡ b
solve_one g lanes work a b p q = p.space ∙ sym q.space
