-- Laws of the set that a slot holds.
use mathlib.Core.Path.{◌≡◌, refl, sym, ap, ◌∙◌}
use mathlib.Core.Bool.{true, false, not, cond}
use mathlib.Core.List.{List, [], ◌∷◌, ◌++◌}
use mathlib.Core.Logic.{⊎_elim}
use Prim.Native.Nat.{ℕ, zero, suc, ◌+◌, ◌≤◌, ◌<◌}
use native.Mathlib.Omega.{arith}
use borrow.Author.Tests.{eq-eqb, ne_eqb, eqb-true, not-false}
use lib.Dec.{eqb}
use lib.ListN.{length, take, get_or, replicate, get_or-eq_default}
use lib.Seq.{get_or-take, ext_get_or, take-take, take_all, take-append-le}
use lib.Ieee.{Float}
use Rattle.lists.specs.Sizes.{most_windows, most_taps, most_set_taps}
use Rattle.lists.specs.Totals.{total}
use Rattle.lists.proofs.Flags.{either}
use Rattle.lists.proofs.Numbers.{le_or_lt}
use Rattle.lists.proofs.Sums.{total-under}
use Rattle.floats.specs.Numbers.{nought}
use Rattle.model.specs.Windows.{widths_fit, all_finite, window_refusal}
use Rattle.model.proofs.Accepted.{accepted-few, accepted-whole, width_some, width_few}
use Rattle.houses.specs.Slots.{Slot, up_to_last, trimmed, widths_in, coefficients_in, is_empty}
use Rattle.houses.specs.Changes.{padded, holding, cleared}
use Rattle.houses.proofs.Putting.{padded-length}

-- ---- numbers without the zeros at their end

-- they are no more than all
last_within : (row : List ℕ) → up_to_last row ≤ length row
unfolding up_to_last
last_within [] = omega arith
last_within (w ∷ ws) = either (λ n. n ≤ suc (length ws)) (eqb (w + up_to_last ws) 0) 0 (suc (up_to_last ws)) (omega arith) (omega (arith, last_within ws))

-- of zeros none is left
last_none : (n m : ℕ) → up_to_last (take n (replicate m 0)) ≡ 0
unfolding up_to_last
last_none zero m = refl
last_none (suc n) zero = refl
last_none (suc n) (suc m) = rw (last_none n m)

-- where none is 0 all are
last-all : (ws : List ℕ) → ((i : ℕ) → i < length ws → 1 ≤ get_or ws i 0) → up_to_last ws ≡ length ws
unfolding up_to_last
last-all [] some = refl
last-all (w ∷ ws) some = rw (ne_eqb (w + up_to_last ws) 0 (λ e. omega (arith, some 0 (omega arith))), last-all ws (λ i l. some (suc i) (omega arith)))

-- zeros behind them change nothing
last-padded : (row : List ℕ) (n m : ℕ) → length row ≤ n → up_to_last (take n (row ++ replicate m 0)) ≡ up_to_last row
unfolding up_to_last
last-padded [] n m h = last_none n m
last-padded (w ∷ ws) zero m h = absurd (omega arith)
last-padded (w ∷ ws) (suc n) m h = ap (λ (k : ℕ). cond (eqb (w + k) 0) 0 (suc k)) (last-padded ws n m (omega arith))

-- what stands behind a list isn't in its front
padded-front : {A : Type 0} (n k : ℕ) (z : A) (xs : List A) → k ≤ n → k ≤ length xs → take k (padded n z xs) ≡ take k xs
padded-front n k z xs h g = take-take k n (xs ++ replicate n z) h ∙ take-append-le k xs (replicate n z) g

-- so a row has the same widths with zeros behind it
trimmed-padded : (n : ℕ) (row : List ℕ) → length row ≤ n → trimmed (padded n 0 row) ≡ trimmed row
trimmed-padded n row h = ap (λ (k : ℕ). take k (padded n 0 row)) (last-padded row n n h) ∙ padded-front n (up_to_last row) 0 row (omega (arith, last_within row)) (last_within row)

-- the first number of a row: it is 0 and so are the others, or it stays in front of what is left of them
module _ (w : ℕ) (ws : List ℕ) (P : List ℕ → Type 0) where
  first-trimmed : (w ≡ 0 → trimmed ws ≡ [] → P []) → P (w ∷ trimmed ws) → P (trimmed (w ∷ ws))
  unfolding up_to_last
  first-trimmed none some =
      let k : ℕ = up_to_last ws in
      (elim (eqb (w + k) 0) as (λ b. eqb (w + k) 0 ≡ b → P (take (cond b 0 (suc k)) (w ∷ ws))) [
        | true ↦ λ e.
            let z : w + k ≡ 0 = eqb-true (w + k) 0 e in
            let y : k ≡ 0 = omega arith in
            none (omega arith) (rw y)
        | false ↦ λ e. some
      ])
      refl

-- the zeros that are left out add nothing
pub total-trimmed : (row : List ℕ) → total (trimmed row) ≡ total row
unfolding up_to_last total
total-trimmed [] = refl
total-trimmed (w ∷ ws) = first-trimmed w ws (λ l. total l ≡ w + total ws)
    (λ z e. omega (arith, total-trimmed ws, ap total e))
    (ap (λ (m : ℕ). w + m) (total-trimmed ws))

-- nor do they change a number
trimmed-at : (row : List ℕ) (i : ℕ) → get_or (trimmed row) i 0 ≡ get_or row i 0
unfolding up_to_last
trimmed-at [] i = refl
trimmed-at (w ∷ ws) zero = first-trimmed w ws (λ l. get_or l 0 0 ≡ w) (λ z e. sym z) refl
trimmed-at (w ∷ ws) (suc i) = first-trimmed w ws (λ l. get_or l (suc i) 0 ≡ get_or ws i 0)
    (λ z e. ap (λ (l : List ℕ). get_or l i 0) (sym e) ∙ trimmed-at ws i)
    (trimmed-at ws i)

-- and those behind neither
padded-at : {A : Type 0} (xs : List A) (n i : ℕ) (z : A) → get_or (xs ++ replicate n z) i z ≡ get_or xs i z
padded-at [] zero i z = refl
padded-at [] (suc n) zero z = refl
padded-at [] (suc n) (suc i) z = padded-at [] n i z
padded-at (x ∷ xs) n zero z = refl
padded-at (x ∷ xs) n (suc i) z = padded-at xs n i z

-- so rows of the same widths are one row with zeros behind them
pub padded-same : (n : ℕ) (row other : List ℕ) → trimmed row ≡ trimmed other → padded n 0 row ≡ padded n 0 other
padded-same n row other e =
    let number : (xs : List ℕ) (i : ℕ) → i < n → get_or (padded n 0 xs) i 0 ≡ get_or (trimmed xs) i 0 = λ xs i h. get_or-take n (xs ++ replicate n 0) i 0 h ∙ padded-at xs n i 0 ∙ sym (trimmed-at xs i) in
    let long = padded-length n 0 row in
    ext_get_or 0 (padded n 0 row) (padded n 0 other) (long ∙ sym (padded-length n 0 other))
    (λ i h. let l : i < n = omega arith in number row i l ∙ ap (λ (ws : List ℕ). get_or ws i 0) e ∙ sym (number other i l))

-- ---- a set that isn't refused

-- by what is asked of it
pub fit-accepted : (ws : List ℕ) (cs : List Float) → widths_fit ws ≡ true → all_finite cs ≡ true → length cs ≡ total ws → window_refusal ws cs ≡ 0
unfolding window_refusal
fit-accepted ws cs f g e = rw (f, g, eq-eqb (length cs) (total ws) e)

module _ (ws : List ℕ) (cs : List Float) (h : window_refusal ws cs ≡ 0) where
  -- its widths have no zeros at their end
  pub accepted-trimmed : trimmed ws ≡ ws
  accepted-trimmed = take_all (up_to_last ws) ws (omega (arith, last-all ws (width_some ws cs h)))

  -- it has sixty coefficients at most
  pub accepted-total : total ws ≤ most_set_taps
  accepted-total =
      let each : (i : ℕ) → get_or ws i 0 ≤ most_taps = λ i. ⊎_elim
      (λ (l : length ws ≤ i). omega (arith, get_or-eq_default ws 0 l))
      (λ (l : i < length ws). width_few ws cs h i l)
      (le_or_lt (length ws) i) in
      omega (arith, total-under most_taps ws each, accepted-few ws cs h)

-- ---- slots

-- a slot is empty as its set is refused
empty_as : (x : Slot) (ws : List ℕ) (cs : List Float) → widths_in x ≡ ws → coefficients_in x ≡ cs → is_empty x ≡ not (eqb (window_refusal ws cs) 0)
unfolding is_empty
empty_as x ws cs e f = rw (f, e)

-- one that isn't empty holds a set that isn't refused
pub held-accepted : (x : Slot) → is_empty x ≡ false → window_refusal (widths_in x) (coefficients_in x) ≡ 0
unfolding is_empty
held-accepted x e = eqb-true _ 0 (not-false _ e)

-- a cleared one is empty
pub cleared-empty : is_empty cleared ≡ true
unfolding is_empty up_to_last window_refusal widths_fit
cleared-empty = refl

-- a row of widths and coefficients that aren't refused, in a slot
module _ (row : List ℕ) (cs : List Float) (few : length row ≤ most_windows) (h : window_refusal (trimmed row) cs ≡ 0) where
  -- its widths
  pub held-widths : widths_in (holding row cs) ≡ trimmed row
  held-widths = trimmed-padded most_windows row few

  -- its coefficients
  pub held-coefficients : coefficients_in (holding row cs) ≡ cs
  held-coefficients =
      let whole : length cs ≡ total (trimmed row) = accepted-whole (trimmed row) cs h in
      ap (λ (ws : List ℕ). take (total ws) (padded most_set_taps nought cs)) held-widths
      ∙ padded-front most_set_taps (total (trimmed row)) nought cs (accepted-total (trimmed row) cs h) (omega arith)
      ∙ take_all (total (trimmed row)) cs (omega arith)

  -- and it isn't empty
  pub held : is_empty (holding row cs) ≡ false
  held = empty_as (holding row cs) (trimmed row) cs held-widths held-coefficients ∙ rw h
