-- A table that was started.
use mathlib.Core.Path.{◌≡◌, refl, sym, ap, ◌∙◌}
use mathlib.Core.Bool.{true, false}
use mathlib.Core.List.{List, []}
use mathlib.Core.Logic.{⊎_elim}
use Prim.Native.Nat.{ℕ, zero, suc, ◌+◌, ◌*◌, ◌≤◌, ◌<◌}
use native.Mathlib.Nat.{mul-le-mul_right, zero-mul, suc-mul}
use native.Mathlib.Omega.{arith}
use borrow.Author.Tests.{le-ltb}
use lib.ListN.{length, take, drop, length-append, length-take, drop_of_length-le}
use lib.Seq.{take-nil, drop_at}
use lib.Ieee.{Float}
use Rattle.lists.specs.Build.{build, rows}
use Rattle.lists.specs.Frames.{count}
use Rattle.lists.specs.Sizes.{most_windows, most_set_taps, slot_count, house_count, most_own}
use Rattle.lists.specs.Totals.{total}
use Rattle.std.proofs.Common.{Ok}
use Rattle.lists.proofs.Builds.{build-same}
use Rattle.lists.proofs.Joins.{rows-length, rows-part}
use Rattle.lists.proofs.Numbers.{le_or_lt}
use Rattle.lists.proofs.Regions.{cut-length}
use Rattle.lists.proofs.Sums.{total-part, total-front}
use Rattle.floats.specs.Numbers.{nought}
use Rattle.model.specs.Windows.{finite, widths_fit, all_finite, window_refusal}
use Rattle.model.proofs.Windows.{all-part, all_built}
use Rattle.houses.specs.Slots.{Table, slot_at, trimmed, widths_in, coefficients_in, is_empty, first_own, free_of}
use Rattle.houses.specs.Changes.{padded, holding, cleared, row_length, row_of, taps_of, started, SameSets}
use Rattle.houses.specs.Promise.{table_refusal, row_fits, StartSays}
use Rattle.houses.specs.Calls.{Asked, Told, Makes, Call, Run, own_calls, asked_in, Alike}
use Rattle.houses.proofs.Whose.{may-within}
use Rattle.houses.proofs.Putting.{padded-length}
use Rattle.houses.proofs.Holding.{total-trimmed, padded-same, fit-accepted, cleared-empty, held-widths, held-coefficients, held}
use Rattle.houses.proofs.Accepting.{done-then, StartAccepted, start-accepted}
use Rattle.houses.proofs.Apart.{houses_apart}

-- ---- what a start leaves, for any sets

module _ (n : ℕ) (ws : List ℕ) (cs : List Float) where
  -- what slot i has then
  abbrev width_row : ℕ → List ℕ
  width_row i = padded most_windows 0 (row_of n ws i)

  abbrev tap_row : ℕ → List Float
  tap_row i = padded most_set_taps nought (taps_of n ws cs i)

  -- four widths and sixty coefficients
  four : (i : ℕ) → i < slot_count → length (width_row i) ≡ most_windows
  four i h = padded-length most_windows 0 (row_of n ws i)

  sixty : (i : ℕ) → i < slot_count → length (tap_row i) ≡ most_set_taps
  sixty i h = padded-length most_set_taps nought (taps_of n ws cs i)

  module _ (t : Table) where
    -- both lists are long enough
    started-room : table_refusal (started n ws cs t) ≡ 0
    unfolding started table_refusal
    started-room =
        let u : Table = started n ws cs t in
        let a : slot_count * most_windows ≤ length u.widths = simp length-append (omega (arith, rows-length width_row most_windows slot_count four)) in
        let b : slot_count * most_set_taps ≤ length u.coefficients = simp length-append (omega (arith, rows-length tap_row most_set_taps slot_count sixty)) in
        rw (le-ltb (length u.widths) 48 a, le-ltb (length u.coefficients) 720 b)

    -- what lies behind the slots is as it was
    pub started-behind : (drop (slot_count * most_windows) (started n ws cs t).widths ≡ drop (slot_count * most_windows) t.widths)
        × (drop (slot_count * most_set_taps) (started n ws cs t).coefficients ≡ drop (slot_count * most_set_taps) t.coefficients)
    unfolding started
    started-behind = (drop_at (rows width_row slot_count) _ 48 (rows-length width_row most_windows slot_count four), drop_at (rows tap_row slot_count) _ 720 (rows-length tap_row most_set_taps slot_count sixty))

    -- each slot has its set, whatever stood there
    started-slot : (s : ℕ) → s < slot_count → slot_at (started n ws cs t) s ≡ holding (row_of n ws s) (taps_of n ws cs s)
    unfolding started
    started-slot s h = rw (rows-part width_row most_windows slot_count s _ h four, rows-part tap_row most_set_taps slot_count s _ h sixty)

-- ---- a start that is accepted

module _ {t t' : Table} (common : ℕ) (ws : List ℕ) (cs : List Float) (a : StartSays t common ws cs (Ok tt) t') where
  abbrev size : ℕ
  size = row_length common ws

  -- the sets are as it asks
  accepted : StartAccepted t common ws cs
  accepted = start-accepted t common ws cs (done-then a).0

  -- every slot has what a start leaves
  there : (s : ℕ) → s < slot_count → slot_at t' s ≡ holding (row_of size ws s) (taps_of size ws cs s)
  there s h = rw (done-then a).1 (started-slot size ws cs t s h)

  -- past the last set there is no number
  row-none : (s : ℕ) → common ≤ s → row_of size ws s ≡ []
  row-none s h =
      let l : length ws ≤ s * size = omega (arith, accepted.rows, mul-le-mul_right size h) in
      ap (take size) (drop_of_length-le ws l) ∙ take-nil size

  -- so every slot there is as a cleared one
  pub started-cleared : (s : ℕ) → common ≤ s → s < slot_count → slot_at t' s ≡ cleared
  unfolding total
  started-cleared s h l = there s l ∙ rw (row-none s h)

  -- that is, empty
  pub started-empty : (s : ℕ) → common ≤ s → s < slot_count → is_empty (slot_at t' s) ≡ true
  started-empty s h l = ap is_empty (started-cleared s h l) ∙ cleared-empty

  -- both houses have their four slots free
  pub started-free : (house : ℕ) → house < house_count → free_of house t' ≡ most_own
  unfolding free_of
  started-free house h = ap count (build-same _ (λ i. true) most_own (λ i l. started-empty (first_own house + i) (omega (arith, accepted.few)) (omega arith))) ∙ (unfold build count in refl)

  -- a set that was given
  module _ (i : ℕ) (h : i < common) where
    abbrev row : List ℕ
    row = row_of size ws i

    abbrev place : ℕ
    place = total (take (i * size) ws)

    abbrev taps : List Float
    taps = taps_of size ws cs i

    -- its row without the zeros at its end is a set's widths
    row_fits_lem : (length row ≤ most_windows) × (widths_fit (trimmed row) ≡ true)
    row_fits_lem = (omega (arith, accepted.narrow, length-take size (drop (i * size) ws)), all_built row_fits (row_of size ws) common i accepted.fit h)

    -- it has as many coefficients as these sum to
    taps-length : length taps ≡ total row
    taps-length = cut-length place (total row) cs (omega (arith, accepted.taps, total-part ws (i * size) size, total-front ws (i * size + size)))

    -- so it isn't refused
    set-accepted : window_refusal (trimmed row) taps ≡ 0
    unfolding all_finite
    set-accepted = fit-accepted (trimmed row) taps row_fits_lem.1 (all-part finite place (total row) cs accepted.finite) (taps-length ∙ sym (total-trimmed row))

    -- and is in its slot
    at : slot_at t' i ≡ holding row taps
    at = there i (omega (arith, accepted.few))

    -- which has its widths,
    pub started-widths : widths_in (slot_at t' i) ≡ trimmed (row_of (row_length common ws) ws i)
    started-widths = ap widths_in at ∙ held-widths row taps row_fits_lem.0 set-accepted

    -- its coefficients
    pub started-coefficients : coefficients_in (slot_at t' i) ≡ taps_of (row_length common ws) ws cs i
    started-coefficients = ap coefficients_in at ∙ held-coefficients row taps row_fits_lem.0 set-accepted

    -- and isn't empty
    pub started-held : is_empty (slot_at t' i) ≡ false
    started-held = ap is_empty at ∙ held row taps row_fits_lem.0 set-accepted

-- ---- two starts

module _ {t u t' u' : Table} (common : ℕ) (ws vs : List ℕ) (cs : List Float) (a : StartSays t common ws cs (Ok tt) t') (b : StartSays u common vs cs (Ok tt) u') (same : SameSets common ws vs) where
  abbrev n : ℕ
  n = row_length common ws

  abbrev m : ℕ
  m = row_length common vs

  -- past the last set too
  rows_same : (i : ℕ) → trimmed (row_of n ws i) ≡ trimmed (row_of m vs i)
  rows_same i = ⊎_elim
      (λ (h : common ≤ i). rw (row-none common ws cs a i h, row-none common vs cs b i h))
      (λ (h : i < common). same i h)
      (le_or_lt common i)

  -- each has as many coefficients
  totals_same : (i : ℕ) → total (row_of n ws i) ≡ total (row_of m vs i)
  totals_same i = sym (total-trimmed (row_of n ws i)) ∙ ap total (rows_same i) ∙ total-trimmed (row_of m vs i)

  -- so each set's coefficients begin at one place
  places_same : (i : ℕ) → total (take (i * n) ws) ≡ total (take (i * m) vs)
  places_same zero = rw (zero-mul n, zero-mul m)
  places_same (suc i) = rw (suc-mul i n, suc-mul i m) (omega (arith, total-part ws (i * n) n, total-part vs (i * m) m, places_same i, totals_same i))

  -- and each slot has the same
  slots_same : (i : ℕ) → holding (row_of n ws i) (taps_of n ws cs i) ≡ holding (row_of m vs i) (taps_of m vs cs i)
  slots_same i = rw (padded-same most_windows (row_of n ws i) (row_of m vs i) (rows_same i), places_same i, totals_same i)

  -- RULES, Houses, the claim: two tables that were started with the same sets are alike to every house, whatever they held before
  pub started-alike : (house : ℕ) → Alike house t' u'
  started-alike house = record {
    room = rw ((done-then a).1, (done-then b).1) (started-room n ws cs t ∙ sym (started-room m vs cs u));
    slots = λ s k. let h : s < slot_count = may-within house s k in there common ws cs a s h ∙ slots_same s ∙ sym (there common vs cs b s h);
  }

  -- so calls after two such starts tell a house the same
  pub started-apart : (house : ℕ) (t'' u'' : Table) (xs ys : List (Call Asked Told)) → Run Makes t' xs t'' → Run Makes u' ys u'' → asked_in (own_calls house xs) ≡ asked_in (own_calls house ys) → own_calls house xs ≡ own_calls house ys
  started-apart house t'' u'' xs ys r q e = (houses_apart house t' u' t'' u'' xs ys (started-alike house) r q e).0
