-- Laws of how a table is started: rows of widths that are looked at, and slots that are written row after row.
use mathlib.Core.Path.{◌≡◌, refl, sym, ap, ◌∙◌}
use mathlib.Core.Bool.{Bool, true, false, not}
use mathlib.Core.List.{List, [], ◌++◌}
use Prim.Native.Nat.{ℕ, ◌+◌, ◌*◌, ◌^◌, ◌≤◌, ◌<◌, zero-le}
use native.Mathlib.Nat.{mul-le-mul}
use native.Mathlib.Omega.{arith}
use borrow.Author.Tests.{le-leb, lt-leb, eq-eqb, not-true, not-false}
use lib.Dec.{eqb}
use lib.ListN.{length, take, drop, length-take}
use lib.Seq.{sets}
use lib.Ieee.{Float}
use Rattle.lists.specs.Build.{build, rows}
use Rattle.lists.specs.Sizes.{most_windows, most_set_taps, most_common, slot_count}
use Rattle.lists.specs.Totals.{total}
use Rattle.lists.proofs.Joins.{rows_none, rows-length, rows-stored}
use Rattle.lists.proofs.Stores.{sets-next}
use Rattle.lists.proofs.Sums.{total-whole}
use Rattle.floats.specs.Numbers.{nought}
use Rattle.model.specs.Windows.{all_of, widths_fit, all_finite}
use Rattle.model.proofs.Windows.{all_more, all_fails}
use Rattle.houses.specs.Slots.{Table, table, trimmed}
use Rattle.houses.specs.Changes.{holding, put_in, row_length, row_of, taps_of, common_slot, started}
use Rattle.houses.specs.Promise.{row_fits, rows_fit, common_agree, table_refusal, start_refusal}
use Rattle.houses.proofs.Putting.{padded-length}

-- ---- rows

-- so many rows have been looked at, and fit
pub record Fitting (ws : List ℕ) (n count i : ℕ) : Type 0 where
  pub within : i ≤ count
  pub so_far : all_of row_fits (build (row_of n ws) i) ≡ true

pub fitting : (ws : List ℕ) (n count : ℕ) → Fitting ws n count 0
unfolding build all_of
fitting ws n count = record { within = zero-le; so_far = refl }

module _ {ws : List ℕ} {n count i : ℕ} (k : Fitting ws n count i) where
  module _ (h : i < count) (row own : List ℕ) (t : Bool) (r : row ≡ row_of n ws i) (o : own ≡ trimmed row) (w : t ≡ widths_fit own) where
    this : t ≡ row_fits (row_of n ws i)
    this = rw (w, o, r)

    pub fitting-next : not t ≡ false → Fitting ws n count (i + 1)
    fitting-next e = record { within = omega arith; so_far = all_more row_fits (row_of n ws) i k.so_far (sym this ∙ not-false t e) }

    pub fitting_stop : not t ≡ true → false ≡ all_of row_fits (build (row_of n ws) count)
    fitting_stop e = sym (all_fails row_fits (row_of n ws) count i h (sym this ∙ not-true t e))

-- ---- lists that agree

module _ (common n : ℕ) (ws : List ℕ) (cs : List Float) (e : n ≡ row_length common ws) where
  pub agree_as : (t : ℕ) → common ≤ most_common → n ≤ most_windows → common * n ≡ length ws → t ≡ total (take (2 ^ 32) ws) → eqb (length cs) t ≡ common_agree common ws cs
  agree_as t h g d q =
      let l : length ws ≤ 4294967296 = omega (arith, mul-le-mul h g) in
      rw (← e, eq-eqb (common * n) (length ws) d, q, total-whole ws l)

-- ---- the ways out of a check

module _ (t : Table) (common : ℕ) (ws : List ℕ) (cs : List Float) where
  pub start-many : most_common < common → ◌≡◌ {A = ℕ} 23 (start_refusal t common ws cs)
  unfolding start_refusal
  start-many h = rw (lt-leb common most_common h)

  module _ (h : common ≤ most_common) (f : Bool) (e : f ≡ rows_fit common ws) where
    pub start-rows : not f ≡ true → ◌≡◌ {A = ℕ} 1 (start_refusal t common ws cs)
    unfolding start_refusal
    start-rows n = rw (le-leb common most_common h, ← e, not-true f n)

    module _ (n : not f ≡ false) (g : Bool) (d : g ≡ all_finite cs) where
      pub start_infinite : not g ≡ true → ◌≡◌ {A = ℕ} 2 (start_refusal t common ws cs)
      unfolding start_refusal
      start_infinite m = rw (le-leb common most_common h, ← e, not-false f n, ← d, not-true g m)

      module _ (m : not g ≡ false) (a : Bool) (b : a ≡ common_agree common ws cs) where
        pub start-disagree : not a ≡ true → ◌≡◌ {A = ℕ} 4 (start_refusal t common ws cs)
        unfolding start_refusal
        start-disagree q = rw (le-leb common most_common h, ← e, not-false f n, ← d, not-false g m, ← b, not-true a q)

        pub start-last : (k : ℕ) → not a ≡ false → k ≡ table_refusal t → k ≡ start_refusal t common ws cs
        unfolding start_refusal
        start-last k q r = rw (le-leb common most_common h, ← e, not-false f n, ← d, not-false g m, ← b, not-false a q) r

-- ---- a slot becomes what its row says

pub row_put : (ws : List ℕ) (cs : List Float) (s n before count : ℕ) (row front : List ℕ) (taps : List Float) (t t' : Table) → s < slot_count → n ≤ most_windows
    → row ≡ take n (drop (s * n) ws) → front ≡ take (s * n) ws → before ≡ total (take (2 ^ 32) front) → count ≡ total (take (2 ^ 32) row) → taps ≡ take count (drop before cs)
    → t' ≡ put_in s (holding row taps) t → t' ≡ put_in s (common_slot n ws cs s) t
row_put ws cs s n before count row front taps t t' h g r f b c u p =
    let narrow : length row ≤ 4294967296 = rw r (omega (arith, length-take n (drop (s * n) ws))) in
    let low : s ≤ 12 = omega arith in
    let most : s * n ≤ 12 * 4 = mul-le-mul low g in
    let short : length front ≤ 4294967296 = rw f (omega (arith, length-take (s * n) ws, most)) in
    let x : before ≡ total (take (s * n) ws) = b ∙ total-whole front short ∙ ap total f in
    let y : count ≡ total (row_of n ws s) = c ∙ total-whole row narrow ∙ ap total r in
    p ∙ rw (u, x, y, r)

-- the slots before slot s have been written
module _ (n : ℕ) (ws : List ℕ) (cs : List Float) where
  abbrev widths_of : ℕ → List ℕ
  widths_of i = (common_slot n ws cs i).widths

  abbrev taps_of_lem : ℕ → List Float
  taps_of_lem i = (common_slot n ws cs i).coefficients

  pub record Starting (ws₀ ws' : List ℕ) (cs₀ cs' : List Float) (s : ℕ) : Type 0 where
    pub within : s ≤ slot_count
    pub widths : ws' ≡ sets ws₀ 0 (rows widths_of s)
    pub coefficients : cs' ≡ sets cs₀ 0 (rows taps_of_lem s)

  pub starting : (ws₀ : List ℕ) (cs₀ : List Float) → Starting ws₀ ws₀ cs₀ cs₀ 0
  starting ws₀ cs₀ = record { within = zero-le; widths = rw (rows_none widths_of); coefficients = rw (rows_none taps_of_lem) }

  widths-long : (i : ℕ) → length (widths_of i) ≡ most_windows
  widths-long i = padded-length most_windows 0 (row_of n ws i)

  taps-long : (i : ℕ) → length (taps_of_lem i) ≡ most_set_taps
  taps-long i = padded-length most_set_taps nought (taps_of n ws cs i)

  module _ {ws₀ ws' : List ℕ} {cs₀ cs' : List Float} {s : ℕ} (k : Starting ws₀ ws' cs₀ cs' s) where
    pub start-next : (ws'' : List ℕ) (cs'' : List Float) → s < slot_count → table ws'' cs'' ≡ put_in s (common_slot n ws cs s) (table ws' cs') → Starting ws₀ ws'' cs₀ cs'' (s + 1)
    unfolding put_in
    start-next ws'' cs'' h e =
        record {
          within = omega arith;
          widths = rows-stored widths_of most_windows s 0 (s * most_windows) ws₀ ws' ws'' widths-long k.widths (omega arith) (ap (λ (t : Table). t.widths) e);
          coefficients = rows-stored taps_of_lem most_set_taps s 0 (s * most_set_taps) cs₀ cs' cs'' taps-long k.coefficients (omega arith) (ap (λ (t : Table). t.coefficients) e);
        }

    pub start-done : slot_count * most_windows ≤ length ws₀ → slot_count * most_set_taps ≤ length cs₀ → slot_count ≤ s → table ws' cs' ≡ started n ws cs (table ws₀ cs₀)
    unfolding started
    start-done f g h =
        let e : s ≡ slot_count = omega (arith, k.within) in
        let a : length (rows widths_of slot_count) ≡ slot_count * most_windows = rows-length widths_of most_windows slot_count (λ i l. widths-long i) in
        let b : length (rows taps_of_lem slot_count) ≡ slot_count * most_set_taps = rows-length taps_of_lem most_set_taps slot_count (λ i l. taps-long i) in
        let p : ws' ≡ rows widths_of slot_count ++ drop (slot_count * most_windows) ws₀ =
        k.widths ∙ ap (λ (j : ℕ). sets ws₀ 0 (rows widths_of j)) e ∙ sets-next [] (rows widths_of slot_count) ws₀ 0 (slot_count * most_windows) refl (omega (arith, a)) f in
        let q : cs' ≡ rows taps_of_lem slot_count ++ drop (slot_count * most_set_taps) cs₀ =
        k.coefficients ∙ ap (λ (j : ℕ). sets cs₀ 0 (rows taps_of_lem j)) e ∙ sets-next [] (rows taps_of_lem slot_count) cs₀ 0 (slot_count * most_set_taps) refl (omega (arith, b)) g in
        rw (p, q)
