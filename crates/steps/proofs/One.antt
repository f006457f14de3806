-- The call has one outcome: two that its promise allows are equal.
use mathlib.Core.Path.{◌≡◌, sym, ◌∙◌}
use mathlib.Core.List.{List}
use Prim.Native.Nat.{ℕ}
use Rattle.std.proofs.Common.{Option}
use lib.Ieee.{Float}
use Rattle.steps.specs.Steps.{States}
use Rattle.steps.specs.Promise.{SettleSays}

pub settle-one : (rho : Float) (t : ℕ) (ss : States) (ds : List ℕ) (r s : Option ℕ) (es fs : List ℕ) → SettleSays rho t ss ds r es → SettleSays rho t ss ds s fs → (r ≡ s) × (es ≡ fs)
settle-one rho t ss ds r s es fs p q = (p.answer ∙ sym q.answer, p.durations ∙ sym q.durations)
