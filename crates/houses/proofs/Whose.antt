-- Whose a slot is.
use mathlib.Core.Path.{◌≡◌}
use mathlib.Core.Bool.{true, false, ◌&&◌, ◌||◌, or-true}
use mathlib.Core.Logic.{◌⊎◌, ⊎_elim, ◌≢◌}
use Prim.Native.Nat.{ℕ, ◌+◌, ◌≤◌, ◌<◌}
use native.Mathlib.Omega.{arith}
use borrow.Author.Tests.{ltb-true, leb-true, lt-ltb, le-leb}
use lib.Dec.{ltb, leb}
use Rattle.lists.specs.Sizes.{slot_count, house_count, most_common, most_own}
use Rattle.lists.proofs.Flags.{both, by_test, one_of}
use Rattle.houses.specs.Slots.{is_common, owns, may_use, first_own}

-- a house's own slots are four
pub own-place : (house s : ℕ) → owns house s ≡ true → (house < house_count) × (first_own house ≤ s) × (s < first_own house + most_own)
own-place house s e =
    let (h, b) = both (ltb house house_count) (leb (first_own house) s && ltb s (first_own house + most_own)) e in
    let (l, m) = both (leb (first_own house) s) (ltb s (first_own house + most_own)) b in
    (ltb-true house house_count h, leb-true (first_own house) s l, ltb-true s (first_own house + most_own) m)

-- and these are its own
pub place-own : (house i : ℕ) → house < house_count → i < most_own → owns house (first_own house + i) ≡ true
place-own house i h l = rw (lt-ltb house house_count h, le-leb (first_own house) (first_own house + i) (omega arith), lt-ltb (first_own house + i) (first_own house + most_own) (omega arith))

-- it may use them
pub own-used : (house s : ℕ) → owns house s ≡ true → may_use house s ≡ true
own-used house s e = rw (e, or-true (is_common s), lt-ltb house house_count (own-place house s e).0)

-- one of its own is one of the twelve
pub own-within : (house s : ℕ) → owns house s ≡ true → s < slot_count
own-within house s o = omega (arith, own-place house s o)

-- a slot that it may use is common or its own
pub may-place : (house s : ℕ) → may_use house s ≡ true → (is_common s ≡ true) ⊎ (owns house s ≡ true)
may-place house s e = one_of (is_common s) (owns house s) (both (ltb house house_count) (is_common s || owns house s) e).1

-- and one of the twelve
pub may-within : (house s : ℕ) → may_use house s ≡ true → s < slot_count
may-within house s e = ⊎_elim
    (λ (c : is_common s ≡ true). omega (arith, ltb-true s most_common c))
    (own-within house s)
    (may-place house s e)

-- a common slot is nobody's own
pub common_none : (other s : ℕ) → is_common s ≡ true → owns other s ≡ false
common_none other s c = by_test (owns other s) (λ o. absurd (omega (arith, own-place other s o, ltb-true s most_common c))) (λ n. n)

-- and what a house may use is no other's own
pub may_none : (house other s : ℕ) → other ≢ house → may_use house s ≡ true → owns other s ≡ false
may_none house other s d e = ⊎_elim
    (common_none other s)
    (λ (o : owns house s ≡ true). by_test (owns other s) (λ p. absurd (d (omega (arith, own-place house s o, own-place other s p)))) (λ n. n))
    (may-place house s e)
