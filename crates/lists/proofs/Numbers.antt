-- Cases on numbers.
use mathlib.Core.Path.{◌≡◌, refl, sym, subst}
use mathlib.Core.Bool.{true, false}
use mathlib.Core.Logic.{◌⊎◌, inl, inr, ⊎_elim, ◌≢◌}
use Prim.Native.Nat.{ℕ, ◌<◌, ◌≤◌}
use native.Mathlib.Omega.{arith}
use borrow.Author.Tests.{leb-true, leb-false, eqb-true, eqb-false}
use lib.Dec.{leb, eqb}

pub le_or_lt : (a b : ℕ) → (a ≤ b) ⊎ (b < a)
le_or_lt a b = (elim (leb a b) as (λ s. leb a b ≡ s → (a ≤ b) ⊎ (b < a)) [ true ↦ λ e. inl (leb-true a b e) | false ↦ λ e. inr (leb-false a b e) ]) refl

pub same_or_not : (a b : ℕ) → (a ≡ b) ⊎ (a ≢ b)
same_or_not a b = (elim (eqb a b) as (λ s. eqb a b ≡ s → (a ≡ b) ⊎ (a ≢ b)) [ true ↦ λ e. inl (eqb-true a b e) | false ↦ λ e. inr (eqb-false a b e) ]) refl

pub less_or_more : (a b : ℕ) → a ≢ b → (a < b) ⊎ (b < a)
less_or_more a b d = ⊎_elim (λ (h : b ≤ a). inr (omega arith)) (λ (h : a < b). inl h) (le_or_lt b a)

-- a number itself, or another
pub by_place : (j : ℕ) (P : ℕ → Type 0) (i : ℕ) → (i ≢ j → P i) → P j → P i
by_place j P i a b = ⊎_elim (λ (e : i ≡ j). subst P (sym e) b) a (same_or_not i j)
