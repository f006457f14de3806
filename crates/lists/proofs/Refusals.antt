-- Laws of refusal numbers.
use mathlib.Core.Path.{◌≡◌, refl}
use mathlib.Core.Bool.{Bool, true, false, cond}
use Prim.Native.Nat.{ℕ, zero, suc, ◌≤◌}
use native.Mathlib.Omega.{arith}
use Rattle.lists.specs.Refusals.{or_else}

-- the first that is given stands
pub or_first : (k l : ℕ) → (k ≡ 0 → ⊥) → or_else k l ≡ k
or_first zero l z = absurd (z refl)
or_first (suc k) l z = refl

-- a test that refuses where it fails has held
pub none_then : (t : Bool) (k : ℕ) → cond t 0 (suc k) ≡ 0 → t ≡ true
none_then true k e = refl
none_then false k e = absurd (omega arith)

-- and one that refuses where it holds has failed
pub then-none : (t : Bool) (k : ℕ) → cond t (suc k) 0 ≡ 0 → t ≡ false
then-none true k e = absurd (omega arith)
then-none false k e = refl

-- neither is above m
pub or_below : (k l m : ℕ) → k ≤ m → l ≤ m → or_else k l ≤ m
or_below zero l m h g = g
or_below (suc k) l m h g = h

-- none is given where neither is
pub or_none : (k l : ℕ) → or_else k l ≡ 0 → (k ≡ 0) × (l ≡ 0)
or_none zero l e = (refl, e)
or_none (suc k) l e = absurd (omega arith)

-- no next one
pub or_zero : (k : ℕ) → or_else k 0 ≡ k
or_zero zero = refl
or_zero (suc k) = refl
