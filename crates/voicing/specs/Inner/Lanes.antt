-- What the contracts of filling back say: several components' numbers at their places of a trajectory.
use Rattle.std.specs.Prelude.{List, [], ◌∷◌, set}
use Prim.Native.Nat.{ℕ, zero, suc, ◌+◌}

module _ {A : Type 0} where
  -- RULES, Sizes: a component's numbers stand at frame * v + component: xs at the places p, p + v, p + 2 × v, and so on
  unfoldable pub sets_by : ℕ → ℕ → List A → List A → List A
  sets_by v p [] out = out
  sets_by v p (x ∷ xs) out = sets_by v (p + v) xs (set out p x)

  -- and those of n components side by side: xs l from place p + l on, lane after lane
  unfoldable pub sets_lanes : ℕ → ℕ → (ℕ → List A) → ℕ → List A → List A
  unfolding sets_by
  sets_lanes v p xs zero out = out
  sets_lanes v p xs (suc n) out = sets_by v (p + n) (xs n) (sets_lanes v p xs n out)
