-- Why calls are refused: each way out of a check, what has held where nothing is, and what use then hands out.
use mathlib.Core.Path.{◌≡◌, sym, ap, ◌∙◌}
use mathlib.Core.Bool.{Bool, true, false, not}
use mathlib.Core.List.{List, [], ◌∷◌}
use Prim.Native.Nat.{ℕ, ◌*◌, ◌^◌, ◌≤◌, ◌<◌}
use native.Mathlib.Omega.{arith}
use borrow.Author.Tests.{ltb-true, lt-ltb, le-ltb, not-true, not-false}
use lib.Dec.{ltb}
use lib.ListN.{length, take, drop, length-drop, length-take}
use lib.Seq.{sets, take_all, length-take-le}
use lib.Ieee.{Float}
use Rattle.lists.specs.Parts.{part}
use Rattle.lists.specs.Sizes.{most_windows, most_set_taps, slot_count, house_count}
use Rattle.lists.specs.Totals.{total}
use Rattle.std.proofs.Common.{Ok}
use Rattle.lists.specs.Refusals.{number_of}
use Rattle.lists.specs.declared.Refusal.{Refusal}
use Rattle.lists.proofs.Answers.{accepted, in_front}
use Rattle.lists.proofs.Ends.{stops}
use Rattle.lists.proofs.Refusals.{or_none, none_then}
use Rattle.lists.proofs.Stores.{copied}
use Rattle.lists.proofs.Sums.{total-whole}
use Rattle.model.specs.Windows.{window_refusal}
use Rattle.houses.specs.Slots.{Table, slot_at, up_to_last, trimmed, is_empty, owns, may_use}
use Rattle.houses.specs.Promise.{table_refusal, set_refusal, clear_refusal, use_refusal, free_refusal, UseSays}
use Rattle.houses.specs.Inner.Steps.{Long, Within}
use Rattle.houses.proofs.Putting.{long-enough}
use Rattle.houses.proofs.Accepting.{set-accepted, clear_accepted, use_accepted}
use Rattle.houses.proofs.Whose.{own-within, may-within}

-- ---- what has held

-- a table that is not too short has all slots
pub long-table : (t : Table) → table_refusal t ≡ 0 → Long t.widths t.coefficients
long-table t e = let l = long-enough t e in record { enough_widths = l.0; enough_coefficients = l.1 }

within-table : (t : Table) (s : ℕ) → s < slot_count → table_refusal t ≡ 0 → Within s t.widths t.coefficients
within-table t s h e = let l = long-table t e in record { there = h; enough_widths = l.enough_widths; enough_coefficients = l.enough_coefficients }

-- and so has one of which a set, a clear or a use is not refused, the slot among them
module _ (t : Table) (house s : ℕ) where
  pub set-within : (widths : List ℕ) (coefficients : List Float) → set_refusal t house s widths coefficients ≡ 0 → Within s t.widths t.coefficients
  set-within widths coefficients e = let a = set-accepted t house s widths coefficients e in within-table t s (own-within house s a.own) a.room

  pub clear_within : clear_refusal t house s ≡ 0 → Within s t.widths t.coefficients
  clear_within e = let a = clear_accepted t house s e in within-table t s (own-within house s a.own) a.room

  pub use_within : (widths : List ℕ) → use_refusal t house s widths ≡ 0 → Within s t.widths t.coefficients
  use_within widths e = let a = use_accepted t house s widths e in within-table t s (may-within house s a.may) a.room

-- a house of which the free slots are counted is there
pub free-house : (t : Table) (house : ℕ) → free_refusal t house ≡ 0 → house < house_count
unfolding free_refusal
free-house t house e = ltb-true house house_count (none_then _ 22 (or_none _ _ e).0)

-- ---- the ways out

module _ (t : Table) (house s : ℕ) where
  -- the slot is the house's own, or isn't
  module _ (o : Bool) (e : o ≡ owns house s) where
    pub set_another : (widths : List ℕ) (coefficients : List Float) → not o ≡ true → ◌≡◌ {A = ℕ} 23 (set_refusal t house s widths coefficients)
    unfolding set_refusal
    set_another widths coefficients n = rw (← e, not-true o n)

    pub clear_another : not o ≡ true → ◌≡◌ {A = ℕ} 23 (clear_refusal t house s)
    unfolding clear_refusal
    clear_another n = rw (← e, not-true o n)

    module _ (n : not o ≡ false) where
      -- and empty, or isn't
      module _ (y : Bool) (f : y ≡ is_empty (slot_at t s)) where
        pub clear_empty : y ≡ true → ◌≡◌ {A = ℕ} 24 (clear_refusal t house s)
        unfolding clear_refusal
        clear_empty h = rw (← e, not-false o n, ← f, h)

        pub clear_last : (k : ℕ) → y ≡ false → k ≡ table_refusal t → k ≡ clear_refusal t house s
        unfolding clear_refusal
        clear_last k h g = rw (← e, not-false o n, ← f, h) g

        module _ (widths : List ℕ) (coefficients : List Float) where
          pub set_already : not y ≡ true → ◌≡◌ {A = ℕ} 25 (set_refusal t house s widths coefficients)
          unfolding set_refusal
          set_already h = rw (← e, not-false o n, ← f, not-true y h)

          module _ (h : not y ≡ false) where
            pub set-windows : (d : Refusal) → number_of d ≡ window_refusal widths coefficients → number_of d ≡ set_refusal t house s widths coefficients
            unfolding set_refusal
            set-windows d w = rw (← e, not-false o n, ← f, not-false y h) (stops d _ (table_refusal t) w)

            pub set_last : (k : ℕ) → 0 ≡ window_refusal widths coefficients → k ≡ table_refusal t → k ≡ set_refusal t house s widths coefficients
            unfolding set_refusal
            set_last k w g = rw (← e, not-false o n, ← f, not-false y h, ← w) g

  -- the house may use the slot, or may not
  module _ (widths : List ℕ) (o : Bool) (e : o ≡ may_use house s) where
    pub use_another : not o ≡ true → ◌≡◌ {A = ℕ} 23 (use_refusal t house s widths)
    unfolding use_refusal
    use_another n = rw (← e, not-true o n)

    module _ (n : not o ≡ false) where
      module _ (y : Bool) (f : y ≡ is_empty (slot_at t s)) where
        pub use_empty : y ≡ true → ◌≡◌ {A = ℕ} 24 (use_refusal t house s widths)
        unfolding use_refusal
        use_empty h = rw (← e, not-false o n, ← f, h)

        pub use_short : (d : Refusal) → y ≡ false → number_of d ≡ table_refusal t → number_of d ≡ use_refusal t house s widths
        unfolding use_refusal
        use_short d h g = rw (← e, not-false o n, ← f, h) (stops d _ _ g)

        module _ (h : y ≡ false) (g : 0 ≡ table_refusal t) where
          pub use_narrow : length widths < most_windows → ◌≡◌ {A = ℕ} 6 (use_refusal t house s widths)
          unfolding use_refusal
          use_narrow l = rw (← e, not-false o n, ← f, h, ← g, lt-ltb (length widths) most_windows l)

          pub use_none : most_windows ≤ length widths → ◌≡◌ {A = ℕ} 0 (use_refusal t house s widths)
          unfolding use_refusal
          use_none l = rw (← e, not-false o n, ← f, h, ← g, le-ltb (length widths) most_windows l)

-- the house is there, or isn't
module _ (t : Table) (house : ℕ) (o : Bool) (e : o ≡ ltb house house_count) where
  pub free_nobody : not o ≡ true → ◌≡◌ {A = ℕ} 23 (free_refusal t house)
  unfolding free_refusal
  free_nobody n = rw (← e, not-true o n)

  pub free-last : (k : ℕ) → not o ≡ false → k ≡ table_refusal t → k ≡ free_refusal t house
  unfolding free_refusal
  free-last k n g = rw (← e, not-false o n) g

-- ---- use

pub use_done : (t : Table) (house s count : ℕ) (widths widths' row own : List ℕ) → 0 ≡ use_refusal t house s widths → row ≡ part (s * most_windows) most_windows t.widths → own ≡ trimmed row
    → count ≡ total (take (2 ^ 32) own) → widths' ≡ sets widths 0 (take most_windows row) → UseSays t house s widths (Ok (record { first = s * most_set_taps; count = count })) widths'
use_done t house s count widths widths' row own z v o c w =
    let k : use_refusal t house s widths ≡ 0 = sym z in
    let h = use_within t house s widths k in
    let four : length row ≡ most_windows = rw v (length-take-le most_windows (drop (s * most_windows) t.widths) (rw length-drop (omega (arith, h.there, h.enough_widths)))) in
    let short : length own ≤ 4294967296 = rw o (omega (arith, length-take (up_to_last row) row)) in
    record {
      answer = accepted _ _ _ k (ap (λ (n : ℕ). s * most_set_taps ∷ n ∷ []) (c ∙ total-whole own short ∙ ap total o ∙ ap (λ (x : List ℕ). total (trimmed x)) v));
      output = w ∙ copied most_windows row widths (omega arith) (use_accepted t house s widths k).places ∙ in_front (use_refusal t house s widths) most_windows (slot_at t s).widths (take most_windows row) widths k (take_all most_windows row (omega arith) ∙ v) (ap length (sym v) ∙ four);
    }
