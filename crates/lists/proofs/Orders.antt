-- Laws of steps in order.
use mathlib.Core.Path.{◌≡◌, refl, ap, ◌∙◌}
use mathlib.Core.Logic.{⊎_elim}
use Prim.Native.Nat.{ℕ, zero, suc, ◌+◌, ◌<◌, ◌≤◌}
use native.Mathlib.Nat.{add-zero, add-suc}
use native.Mathlib.Numerals.{add-one}
use native.Mathlib.Omega.{arith}
use Rattle.lists.specs.Build.{over}
use Rattle.lists.proofs.Numbers.{le_or_lt}

module _ {A : Type 0} (g : ℕ → A → A) where
  pub over-step : (k : ℕ) (y : A) → g k (over g k y) ≡ over g (k + 1) y
  unfolding over
  over-step k y = rw add-one

  -- only what is done counts
  pub over-same : (f : ℕ → A → A) (k : ℕ) (y : A) → ((i : ℕ) (z : A) → i < k → g i z ≡ f i z) → over g k y ≡ over f k y
  unfolding over
  over-same f zero y h = refl
  over-same f (suc k) y h = h k (over g k y) (omega arith) ∙ ap (f k) (over-same f k y (λ i z l. h i z (omega arith)))

  -- n steps and k behind them
  pub over-joined : (n k : ℕ) (y : A) → over g (n + k) y ≡ over (λ f. g (n + f)) k (over g n y)
  unfolding over
  over-joined n zero y = rw add-zero
  over-joined n (suc k) y = rw add-suc (ap (g (n + k)) (over-joined n k y))

  -- numbers that do nothing may be left out
  pub over-idle : (a b : ℕ) (y : A) → a ≤ b → ((f : ℕ) (z : A) → a ≤ f → f < b → g f z ≡ z) → over g b y ≡ over g a y
  unfolding over
  over-idle a zero y l h = let e : a ≡ 0 = omega arith in rw e
  over-idle a (suc b) y l h = ⊎_elim
      (λ (i : a ≤ b). h b (over g b y) i (omega arith) ∙ over-idle a b y i (λ f z p q. h f z p (omega arith)))
      (λ (i : b < a). let e : a ≡ suc b = omega arith in rw e)
      (le_or_lt a b)
