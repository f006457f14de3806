-- Laws of what a slot holds, and of how many of a house's own are empty.
use mathlib.Core.Path.{◌≡◌, refl, sym, ap, ◌∙◌}
use mathlib.Core.Bool.{Bool, not}
use mathlib.Core.List.{List, [], ◌∷◌}
use Prim.Native.Nat.{ℕ, zero, suc, ◌+◌, ◌-◌, ◌*◌, ◌^◌, ◌≤◌, ◌<◌}
use native.Mathlib.Numerals.{add-one}
use native.Mathlib.Omega.{arith}
use borrow.Author.Tests.{ne_eqb}
use lib.Dec.{eqb}
use lib.ListN.{length, take, drop, get_or, length-take}
use lib.Ieee.{Float}
use Rattle.lists.specs.Build.{build}
use Rattle.lists.specs.Frames.{count}
use Rattle.lists.specs.Parts.{part}
use Rattle.lists.specs.Sizes.{most_windows, most_set_taps, most_own}
use Rattle.lists.specs.Totals.{total}
use Rattle.std.proofs.Common.{Result, Ok, Err, is_err}
use Rattle.lists.specs.Ends.{refused}
use Rattle.lists.specs.Refusals.{number_of}
use Rattle.lists.specs.declared.Refusal.{Refusal}
use Rattle.lists.proofs.Ends.{not_none}
use Rattle.lists.proofs.Sums.{total-whole}
use Rattle.model.specs.Windows.{window_refusal}
use Rattle.houses.specs.Slots.{Table, table, slot_at, up_to_last, trimmed, is_empty, first_own, free_of}

-- ---- a loop from the back has seen zeros alone behind the first n numbers

pub record Seeking (row : List ℕ) (n : ℕ) : Type 0 where
  pub within : n ≤ length row
  pub behind : up_to_last (take n row) ≡ up_to_last row

-- the last of them is 0, or isn't
last-zero : (row : List ℕ) (n : ℕ) → n < length row → get_or row n 0 ≡ 0 → up_to_last (take (suc n) row) ≡ up_to_last (take n row)
unfolding up_to_last
last-zero [] n h e = absurd (omega arith)
last-zero (w ∷ ws) zero h e = rw e
last-zero (w ∷ ws) (suc n) h e = rw (last-zero ws n (omega arith) e)

last-other : (row : List ℕ) (n : ℕ) → n < length row → (get_or row n 0 ≡ 0 → ⊥) → up_to_last (take (suc n) row) ≡ suc n
unfolding up_to_last
last-other [] n h e = absurd (omega arith)
last-other (w ∷ ws) zero h e = rw (ne_eqb (w + 0) 0 (λ q. e (omega arith)))
last-other (w ∷ ws) (suc n) h e = rw (last-other ws n (omega arith) e, ne_eqb (w + suc n) 0 (λ q. omega arith))

module _ {row : List ℕ} {n : ℕ} (k : Seeking row n) (h : 0 < n) where
  before : n ≡ suc (n - 1)
  before = omega arith

  pub seek_on : get_or row (n - 1) 0 ≡ 0 → Seeking row (n - 1)
  seek_on e = record { within = omega (arith, k.within); behind = sym (last-zero row (n - 1) (omega (arith, k.within)) e) ∙ ap (λ (m : ℕ). up_to_last (take m row)) (sym before) ∙ k.behind }

  pub seek_found : (get_or row (n - 1) 0 ≡ 0 → ⊥) → n - 1 + 1 ≡ up_to_last row
  seek_found e = add-one (n - 1) ∙ sym (last-other row (n - 1) (omega (arith, k.within)) e) ∙ ap (λ (m : ℕ). up_to_last (take m row)) (sym before) ∙ k.behind

pub seek_none : (row : List ℕ) (n : ℕ) → Seeking row n → n ≤ 0 → 0 ≡ up_to_last row
unfolding up_to_last
seek_none row n k h = let e : n ≡ 0 = omega arith in ap (λ (m : ℕ). up_to_last (take m row)) (sym e) ∙ k.behind

-- ---- a slot is empty where its set would be refused

-- an error has a number other than 0
err-number : (r : Result (Unit {0}) Refusal) → is_err r ≡ not (eqb (refused r) 0)
err-number (Ok u) = refl
err-number (Err e) = rw (ne_eqb (number_of e) 0 (not_none e _ refl))

pub empty_is : (ws : List ℕ) (cs : List Float) (s n : ℕ) (r : Result (Unit {0}) Refusal) (b : Bool) (row own : List ℕ) (taps set-taps : List Float) → row ≡ part (s * most_windows) most_windows ws → own ≡ trimmed row → taps ≡ part (s * most_set_taps) most_set_taps cs
    → n ≡ total (take (2 ^ 32) own) → set-taps ≡ take n taps → refused r ≡ window_refusal own set-taps → b ≡ is_err r → b ≡ is_empty (slot_at (table ws cs) s)
unfolding is_empty
empty_is ws cs s n q b row own taps set-taps r o t e u w d =
    let f : length own ≤ length row = rw o (omega (arith, length-take (up_to_last row) row)) in
    let g : length row ≤ 4 = rw r (omega (arith, length-take most_windows (drop (s * most_windows) ws))) in
    let l : length own ≤ 4294967296 = omega arith in
    let m : n ≡ total own = e ∙ total-whole own l in
    d ∙ err-number q ∙ rw (w, u, m, t, o, r)

-- a loop that counts has counted all of a house's own
pub free_all : (house : ℕ) (t : Table) (n : ℕ) → n ≡ count (build (λ i. is_empty (slot_at t (first_own house + i))) most_own) → n ≡ free_of house t
unfolding free_of
free_all house t n e = e
