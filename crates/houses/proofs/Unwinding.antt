-- One call on two tables that are alike to its house, and what one call leaves as it was.
use mathlib.Core.Path.{◌≡◌, refl, sym, ap, ◌∙◌}
use mathlib.Core.Bool.{true, false, true≢false}
use mathlib.Core.List.{List, [], ◌∷◌}
use mathlib.Core.Logic.{◌≢◌}
use Prim.Native.Nat.{ℕ, zero, suc, ◌+◌, ◌*◌, ◌<◌}
use borrow.Author.Tests.{ltb-true}
use lib.Dec.{ltb}
use lib.Ieee.{Float}
use Rattle.std.proofs.Common.{Result}
use Rattle.lists.specs.Answers.{answer_of, given, written}
use Rattle.lists.specs.Frames.{count}
use Rattle.lists.specs.Sizes.{most_set_taps, house_count, most_own}
use Rattle.lists.specs.Totals.{total}
use Rattle.lists.specs.declared.Refusal.{Refusal}
use Rattle.lists.proofs.Answers.{same}
use Rattle.lists.proofs.Ends.{refused-one, counted-one, spanned-one}
use Rattle.lists.proofs.Builds.{build-same}
use Rattle.lists.proofs.Numbers.{by_place}
use Rattle.lists.proofs.Flags.{by_test}
use Rattle.lists.proofs.Answers.{given-either}
use Rattle.houses.specs.Slots.{Table, Slot, slot_at, widths_in, is_empty, owns, may_use, first_own, free_of}
use Rattle.houses.specs.Changes.{cleared, put_in}
use Rattle.houses.specs.Promise.{table_refusal, set_refusal, clear_refusal, use_refusal, free_refusal, ChangesTo}
use Rattle.houses.specs.Calls.{Asked, Told, changed, told_count, Makes, set_made, clear_made, use_made, free_made, Alike}
use Rattle.houses.specs.Apart.{ToldTheSame, ChangesItsOwn}
use Rattle.houses.proofs.Accepting.{set-accepted, clear_accepted}
use Rattle.houses.proofs.Whose.{own-used, place-own}
use Rattle.houses.proofs.Putting.{Sized, holding-sized, put-room, put-within, put_other}

-- ---- a call on two tables that are alike to its house

module _ {house : ℕ} {t u : Table} (a : Alike house t u) where
  -- both lists of a slot
  parts : (s : ℕ) → may_use house s ≡ true → ((slot_at t s).widths ≡ (slot_at u s).widths) × ((slot_at t s).coefficients ≡ (slot_at u s).coefficients)
  parts s m = (ap (λ (x : Slot). x.widths) (a.slots s m), ap (λ (x : Slot). x.coefficients) (a.slots s m))

  -- set has the same number
  set-number : (s : ℕ) (widths : List ℕ) (coefficients : List Float) → set_refusal t house s widths coefficients ≡ set_refusal u house s widths coefficients
  unfolding set_refusal
  set-number s widths coefficients = by_test (owns house s) (λ o. rw (a.slots s (own-used house s o), a.room)) (λ n. rw n)

  -- so has clear
  clear_number : (s : ℕ) → clear_refusal t house s ≡ clear_refusal u house s
  unfolding clear_refusal
  clear_number s = by_test (owns house s) (λ o. rw (a.slots s (own-used house s o), a.room)) (λ n. rw n)

  -- use has the same answer, and hands out the same widths
  use_told : (s : ℕ) (widths : List ℕ) →
      (answer_of (use_refusal t house s widths) (s * most_set_taps ∷ total (widths_in (slot_at t s)) ∷ []) ≡ answer_of (use_refusal u house s widths) (s * most_set_taps ∷ total (widths_in (slot_at u s)) ∷ []))
      × (written (use_refusal t house s widths) (slot_at t s).widths widths ≡ written (use_refusal u house s widths) (slot_at u s).widths widths)
  unfolding use_refusal
  use_told s widths = by_test (may_use house s) (λ m. let (w, c) = parts s m in rw (w, c, a.room) (refl, refl)) (λ n. rw n (refl, refl))

  -- as many slots are free
  free-same : house < house_count → free_of house t ≡ free_of house u
  unfolding free_of
  free-same h = ap count (build-same _ _ most_own (λ i l. let s : ℕ = first_own house + i in ap is_empty (a.slots s (own-used house s (place-own house i h l)))))

  -- so free has the same answer
  free-told : answer_of (free_refusal t house) (free_of house t ∷ []) ≡ answer_of (free_refusal u house) (free_of house u ∷ [])
  unfolding free_refusal
  free-told = by_test (ltb house house_count) (λ h. rw (free-same (ltb-true house house_count h), a.room)) (λ n. rw n)

  -- the same is put into the same slot of both
  put-alike : (s : ℕ) (x : Slot) → Sized x → Alike house (put_in s x t) (put_in s x u)
  put-alike s x z = record {
    room = put-room s x t ∙ a.room ∙ sym (put-room s x u);
    slots = λ q. by_place s (λ j. may_use house j ≡ true → slot_at (put_in s x t) j ≡ slot_at (put_in s x u) j) q
        (λ d m. put_other s x t z q d ∙ a.slots q m ∙ sym (put_other s x u z q d))
        (λ m. let (w, c) = parts s m in put-within s x t z ∙ rw (w, c) (sym (put-within s x u z)));
  }

  -- a call leaves both as they were, or both new
  given-alike : (k : ℕ) (v w : Table) → Alike house v w → Alike house (given k v t) (given k w u)
  given-alike zero v w n = n
  given-alike (suc k) v w n = a

  -- so a call that changes them has the same answer, and they stay alike
  changes-alike : {k l : ℕ} {v w t' u' : Table} {r q : Result (Unit {0}) Refusal} → ChangesTo k v t r t' → ChangesTo l w u q u' → k ≡ l → Alike house v w → (r ≡ q) × Alike house t' u'
  changes-alike {l = l} {v} {w} {r = r} {q} c d e n = (refused-one r q (c.answer ∙ e ∙ sym d.answer), rw (c.left, d.left, e) (given-alike l v w n))

  -- and so has any call
  makes_alike : {asked : Asked} {x y : Told} {t' u' : Table} → Makes t house asked x t' → Makes u house asked y u' → (x ≡ y) × Alike house t' u'
  makes_alike (set_made {s = s} {widths} {coefficients} c) (set_made d) =
      let (e, n) = changes-alike c d (set-number s widths coefficients) (put-alike s _ (holding-sized widths coefficients)) in
      (ap changed e, n)
  makes_alike (clear_made {s = s} c) (clear_made d) =
      let (e, n) = changes-alike c d (clear_number s) (put-alike s cleared (holding-sized [] [])) in
      (ap changed e, n)
  makes_alike (use_made {s = s} {widths} c) (use_made d) =
      let (e, n) = use_told s widths in
      (rw (spanned-one _ _ (same (c.answer ∙ e ∙ sym d.answer)), c.output ∙ n ∙ sym d.output), a)
  makes_alike (free_made c) (free_made d) = (ap told_count (counted-one _ _ (same (c ∙ free-told ∙ sym d))), a)

-- the first half of the claim, of one call
pub told_the_same : ToldTheSame Makes
told_the_same house asked x y t u t' u' a c d = makes_alike a c d

-- ---- what a call leaves

-- the lengths of both lists, as far as they are asked for, and the slots that are not the house's own
abbrev Kept : ℕ → Table → Table → Type 0
Kept house t t' = (table_refusal t' ≡ table_refusal t) × ((q : ℕ) → owns house q ≡ false → slot_at t' q ≡ slot_at t q)

-- a call that changes a slot of the house's own
put-kept : (house s : ℕ) {k : ℕ} {x : Slot} {t t' : Table} {r : Result (Unit {0}) Refusal} → Sized x → (k ≡ 0 → owns house s ≡ true) → ChangesTo k (put_in s x t) t r t' → Kept house t t'
put-kept house s {k} {x} {t} z own c =
    let other : owns house s ≡ true → (q : ℕ) → owns house q ≡ false → q ≢ s = λ o q n p. true≢false (sym o ∙ ap (owns house) (sym p) ∙ n) in
    rw c.left
    (given-either (Kept house t) k (put_in s x t) t (λ e. (put-room s x t, λ q n. put_other s x t z q (other (own e) q n))) (refl, λ q n. refl))

-- and any call
makes_kept : {house : ℕ} {asked : Asked} {x : Told} {t t' : Table} → Makes t house asked x t' → Kept house t t'
makes_kept {house} {t = t} (set_made {s = s} {widths} {coefficients} c) = put-kept house s (holding-sized widths coefficients) (λ e. (set-accepted t house s widths coefficients e).own) c
makes_kept {house} {t = t} (clear_made {s = s} c) = put-kept house s (holding-sized [] []) (λ e. (clear_accepted t house s e).own) c
makes_kept (use_made c) = (refl, λ q n. refl)
makes_kept (free_made c) = (refl, λ q n. refl)

-- the other half, of one call
pub changes-its-own : ChangesItsOwn Makes
changes-its-own = record {
  room = λ house asked x t t' c. (makes_kept c).0;
  slots = λ house asked x t t' c. (makes_kept c).1;
}
