-- What an accepted window set has.
use mathlib.Core.Path.{◌≡◌, refl, ap}
use mathlib.Core.List.{List, [], ◌∷◌}
use mathlib.Core.Bool.{Bool, true, false, cond}
use Prim.Native.Nat.{ℕ, zero, suc, ◌+◌, ◌<◌, ◌≤◌}
use native.Mathlib.Omega.{arith}
use borrow.Author.Tests.{leb-true, eqb-true}
use lib.Dec.{leb, eqb}
use lib.ListN.{length, take, drop, get_or, length-drop, take-append-drop}
use lib.Seq.{take_all, length-take-le}
use lib.Ieee.{Float}
use Rattle.lists.specs.Totals.{total}
use Rattle.lists.specs.Refusals.{or_else}
use Rattle.lists.proofs.Sums.{total-append, total-more}
use Rattle.model.specs.Windows.{between, all_of, widths_fit, all_finite, window_refusal, width_of, window_start, window_of}
use Rattle.model.proofs.Windows.{and_first, and_second, fit-some, fit-few}

-- what holds of every item holds of each
all-at : {A : Type 0} (p : A → Bool) (xs : List A) (i : ℕ) (z : A) → all_of p xs ≡ true → i < length xs → p (get_or xs i z) ≡ true
unfolding all_of
all-at p [] i z h l = absurd (omega arith)
all-at p (x ∷ xs) zero z h l = and_first (p x) (all_of p xs) h
all-at p (x ∷ xs) (suc i) z h l = all-at p xs i z (and_second (p x) (all_of p xs) h) (omega arith)

tests : (a b d : Bool) → ◌≡◌ {A = ℕ} (or_else (cond a 0 1) (or_else (cond b 0 2) (cond d 0 4))) 0 → (a ≡ true) × (b ≡ true) × (d ≡ true)
tests false b d h = absurd (omega arith)
tests true false d h = absurd (omega arith)
tests true true false h = absurd (omega arith)
tests true true true h = (refl, refl, refl)

module _ (ws : List ℕ) (cs : List Float) (h : window_refusal ws cs ≡ 0) where
  passed : (widths_fit ws ≡ true) × (all_finite cs ≡ true) × (eqb (length cs) (total ws) ≡ true)
  unfolding window_refusal
  passed = tests (widths_fit ws) (all_finite cs) (eqb (length cs) (total ws)) h

  pub accepted-some : 1 ≤ length ws
  accepted-some = fit-some ws passed.0

  pub accepted-few : length ws ≤ 4
  accepted-few = fit-few ws passed.0

  pub accepted-finite : all_finite cs ≡ true
  accepted-finite = passed.1

  pub accepted-whole : length cs ≡ total ws
  accepted-whole = eqb-true (length cs) (total ws) passed.2

  -- so the answers on one window are those of the whole set
  pub accepted-four : take 4 ws ≡ ws
  accepted-four = take_all 4 ws accepted-few

  module _ (i : ℕ) (l : i < length ws) where
    narrow : between 1 15 (width_of ws i) ≡ true
    unfolding widths_fit
    narrow = all-at (between 1 15) ws i 0 (and_second (between 1 4 (length ws)) (all_of (between 1 15) ws) passed.0) l

    pub width_some : 1 ≤ width_of ws i
    width_some = leb-true 1 (width_of ws i) (and_first (leb 1 (width_of ws i)) (leb (width_of ws i) 15) narrow)

    pub width_few : width_of ws i ≤ 15
    width_few = leb-true (width_of ws i) 15 (and_second (leb 1 (width_of ws i)) (leb (width_of ws i) 15) narrow)

    -- window i's coefficients end where the next one's begin
    pub start-next : window_start ws (i + 1) ≡ window_start ws i + width_of ws i
    start-next = total-more ws i l

    pub window-within : window_start ws i + width_of ws i ≤ length cs
    window-within = omega (arith, start-next, accepted-whole, total-append (take (i + 1) ws) (drop (i + 1) ws), ap total (take-append-drop (i + 1) ws))

    pub window-length : length (window_of ws cs i) ≡ width_of ws i
    window-length = length-take-le (width_of ws i) (drop (window_start ws i) cs) (rw length-drop (omega (arith, window-within)))
