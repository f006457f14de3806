-- Laws of a slot that is put into a table.
use mathlib.Core.Path.{◌≡◌}
use mathlib.Core.List.{List, ◌++◌}
use mathlib.Core.Logic.{◌≢◌}
use Prim.Native.Nat.{ℕ, ◌*◌, ◌≤◌, ◌<◌}
use native.Mathlib.Omega.{arith}
use borrow.Author.Tests.{ltb-false}
use lib.Dec.{ltb}
use lib.ListN.{length, replicate, length-append, length-replicate}
use lib.Seq.{sets, length-sets, length-take-le}
use lib.Ieee.{Float}
use Rattle.lists.specs.Sizes.{most_windows, most_set_taps, slot_count}
use Rattle.lists.proofs.Flags.{neither}
use Rattle.lists.proofs.Refusals.{then-none}
use Rattle.lists.proofs.Regions.{sets-within, stored-whole, sets_aside}
use Rattle.floats.specs.Numbers.{nought}
use Rattle.lists.proofs.Stores.{sets_over}
use Rattle.houses.specs.Slots.{Table, Slot, slot, slot_at}
use Rattle.houses.specs.Changes.{padded, holding, put_in}
use Rattle.houses.specs.Promise.{table_refusal}

module _ {A : Type 0} where
  -- padded to n items it has n
  pub padded-length : (n : ℕ) (z : A) (xs : List A) → length (padded n z xs) ≡ n
  padded-length n z xs = length-take-le n (xs ++ replicate n z) (simp (length-append, length-replicate) (omega arith))

-- ---- tables and slots

-- a table that isn't too short has its lengths
pub long-enough : (t : Table) → table_refusal t ≡ 0 → (slot_count * most_windows ≤ length t.widths) × (slot_count * most_set_taps ≤ length t.coefficients)
unfolding table_refusal
long-enough t e =
    let (a, b) = neither (ltb (length t.widths) 48) (ltb (length t.coefficients) 720) (then-none _ 5 e) in
    (ltb-false (length t.widths) 48 a, ltb-false (length t.coefficients) 720 b)

-- a slot of four widths and sixty coefficients
pub record Sized (x : Slot) : Type 0 where
  pub widths : length x.widths ≡ most_windows
  pub coefficients : length x.coefficients ≡ most_set_taps

-- what set and clear put into a slot has them
pub holding-sized : (widths : List ℕ) (coefficients : List Float) → Sized (holding widths coefficients)
holding-sized widths coefficients = record { widths = padded-length most_windows 0 widths; coefficients = padded-length most_set_taps nought coefficients }

module _ (s : ℕ) (x : Slot) (t : Table) where
  -- lists that are long enough stay so, and the others too
  pub put-room : table_refusal (put_in s x t) ≡ table_refusal t
  unfolding put_in table_refusal
  put-room = rw (length-sets t.widths (s * most_windows) x.widths, length-sets t.coefficients (s * most_set_taps) x.coefficients)

  module _ (z : Sized x) where
    -- the slot has as much of it as there is room for
    pub put-within : slot_at (put_in s x t) s ≡ slot (sets (slot_at t s).widths 0 x.widths) (sets (slot_at t s).coefficients 0 x.coefficients)
    unfolding put_in
    put-within =
        let a = sets-within x.widths t.widths (s * most_windows) most_windows 0 (s * most_windows) (omega arith) (omega (arith, z.widths)) in
        let b = sets-within x.coefficients t.coefficients (s * most_set_taps) most_set_taps 0 (s * most_set_taps) (omega arith) (omega (arith, z.coefficients)) in
        rw (a, b)

    -- and all of it in a table that isn't too short
    pub put_same : s < slot_count → table_refusal t ≡ 0 → slot_at (put_in s x t) s ≡ x
    unfolding put_in
    put_same h e =
        let (n, m) = long-enough t e in
        let a = stored-whole x.widths t.widths (s * most_windows) most_windows z.widths (omega arith) in
        let b = stored-whole x.coefficients t.coefficients (s * most_set_taps) most_set_taps z.coefficients (omega arith) in
        rw (a, b)

    -- the other slots are as they were
    pub put_other : (q : ℕ) → q ≢ s → slot_at (put_in s x t) q ≡ slot_at t q
    unfolding put_in
    put_other q d =
        let a = sets_aside x.widths t.widths most_windows q s d (omega (arith, z.widths)) in
        let b = sets_aside x.coefficients t.coefficients most_set_taps q s d (omega (arith, z.coefficients)) in
        rw (a, b)

    -- nothing is left of what was put there before
    pub put-over : (y : Slot) → Sized y → put_in s x (put_in s y t) ≡ put_in s x t
    unfolding put_in
    put-over y k =
        let a = sets_over x.widths y.widths t.widths (s * most_windows) (omega (arith, z.widths, k.widths)) in
        let b = sets_over x.coefficients y.coefficients t.coefficients (s * most_set_taps) (omega (arith, z.coefficients, k.coefficients)) in
        rw (a, b)
