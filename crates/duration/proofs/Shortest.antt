-- Which shortest durations are taken, and a loop that looks at them.
use mathlib.Core.Path.{◌≡◌, refl, sym, ap, ◌∙◌}
use mathlib.Core.Bool.{Bool, true, false, ◌||◌, cond, or-false, or_assoc}
use mathlib.Core.List.{List, [], ◌∷◌}
use Prim.Native.Nat.{ℕ, zero, suc, ◌+◌, ◌*◌, ◌≤◌, ◌<◌, min, zero-le}
use native.Mathlib.Nat.{not-suc-le-zero}
use native.Mathlib.Numerals.{add-one}
use native.Mathlib.Omega.{arith}
use lib.Dec.{ltb, eqb}
use lib.ListN.{length, get_or, take, drop, length-take, length-drop, drop_of_length-le}
use lib.Seq.{drop-cons, take_all, get_or-take, get_or-drop}
use borrow.Author.Tests.{ltb-false, le-ltb, eqb-false, ne_eqb}
use Rattle.lists.specs.Sizes.{most_frames}
use Rattle.lists.specs.Totals.{total}
use Rattle.lists.specs.Answers.{accepting, refusing, answer_of}
use Rattle.lists.proofs.Answers.{refused_is}
use Rattle.lists.proofs.Ends.{passed}
use Rattle.lists.proofs.Flags.{neither}
use Rattle.lists.proofs.Sums.{total-more, total-part, total-front}
use Rattle.duration.specs.Shortest.{any_none, unfit, refusal_of_shortest}

-- each is at least 1, and they come to no more than 65,536 frames
pub record Taken (ls : List ℕ) : Type 0 where
  pub one_each : (i : ℕ) → i < length ls → 1 ≤ get_or ls i 0
  pub few : total ls ≤ most_frames

none_is_0 : (ls : List ℕ) → any_none ls ≡ false → (i : ℕ) → i < length ls → 1 ≤ get_or ls i 0
unfolding any_none
none_is_0 [] e i h = absurd (not-suc-le-zero h)
none_is_0 (l ∷ ls) e zero h = let z : l ≡ 0 → ⊥ = eqb-false l 0 (neither (eqb l 0) (any_none ls) e).0 in omega arith
none_is_0 (l ∷ ls) e (suc i) h = none_is_0 ls (neither (eqb l 0) (any_none ls) e).1 i (omega arith)

not_any : (ls : List ℕ) → ((i : ℕ) → i < length ls → 1 ≤ get_or ls i 0) → any_none ls ≡ false
unfolding any_none
not_any [] f = refl
not_any (l ∷ ls) f = rw (ne_eqb l 0 (λ q. (let h = f 0 (omega arith) in omega arith))) (not_any ls (λ i h. f (suc i) (omega arith)))

unfit-not : (ls : List ℕ) → unfit ls ≡ false → Taken ls
unfit-not ls e = let n = neither (any_none ls) (ltb most_frames (total ls)) e in record { one_each = none_is_0 ls n.0; few = ltb-false most_frames (total ls) n.1 }

-- what it means that they are not refused
pub shortest-taken : (ls : List ℕ) → refusal_of_shortest ls ≡ 0 → Taken ls
unfolding refusal_of_shortest
shortest-taken ls =
    (elim (unfit ls) as (λ s. unfit ls ≡ s → ◌≡◌ {A = ℕ} (cond s 15 0) 0 → Taken ls) [
      | true ↦ λ q e. absurd (omega arith)
      | false ↦ λ q e. unfit-not ls q
    ])
    refl

pub taken-fit : (ls : List ℕ) → Taken ls → refusal_of_shortest ls ≡ 0
unfolding refusal_of_shortest
taken-fit ls t = rw (not_any ls t.one_each, le-ltb most_frames (total ls) t.few)

-- they are 0 or 15
pub shortest-number : (ls : List ℕ) → (refusal_of_shortest ls ≡ 0 → ⊥) → refusal_of_shortest ls ≡ 15
unfolding refusal_of_shortest
shortest-number ls = elim (unfit ls) as (λ s. (◌≡◌ {A = ℕ} (cond s 15 0) 0 → ⊥) → ◌≡◌ {A = ℕ} (cond s 15 0) 15) [ true ↦ λ z. refl | false ↦ λ z. absurd (z refl) ]

-- numbers of at least 1 have a total, if there is one
pub total-some : (ls : List ℕ) → ((i : ℕ) → i < length ls → 1 ≤ get_or ls i 0) → 0 < length ls → 0 < total ls
unfolding total
total-some [] f h = absurd (not-suc-le-zero h)
total-some (l ∷ ls) f h = omega (arith, f 0 (omega arith))

-- a part of such numbers has no other
pub part-one_each : (ls : List ℕ) (a n : ℕ) → ((i : ℕ) → i < length ls → 1 ≤ get_or ls i 0) → (i : ℕ) → i < length (take n (drop a ls)) → 1 ≤ get_or (take n (drop a ls)) i 0
part-one_each ls a n f i h =
    let b : i < min n (length (drop a ls)) = rw (length-take n (drop a ls)) at h in
    rw (get_or-take n (drop a ls) i 0 (omega arith), get_or-drop a ls i 0) (f (a + i) (omega (arith, length-drop a ls)))

-- and no larger total
pub part_low : (ls : List ℕ) (a n : ℕ) → total (take n (drop a ls)) ≤ total ls
part_low ls a n = omega (arith, total-part ls a n, total-front ls (a + n))

-- ---- what `low_of` answers

pub low-unfit : (ls : List ℕ) (none : Bool) (sum : ℕ) → (none ≡ any_none ls) × (sum ≡ total ls) → (none || ltb 65536 sum) ≡ true → refusing 15 ≡ answer_of (refusal_of_shortest ls) (total ls ∷ [])
unfolding refusal_of_shortest
low-unfit ls none sum e h = rw (← e.0, ← e.1, h)

pub low-fit : (ls : List ℕ) (none : Bool) (sum : ℕ) → (none ≡ any_none ls) × (sum ≡ total ls) → (none || ltb 65536 sum) ≡ false → accepting (sum ∷ []) ≡ answer_of (refusal_of_shortest ls) (total ls ∷ [])
unfolding refusal_of_shortest
low-fit ls none sum e h = rw (← e.0, ← e.1, h)

pub low-refused : (ls : List ℕ) (m : ℕ) → refusing m ≡ answer_of (refusal_of_shortest ls) (total ls ∷ []) → (refusal_of_shortest ls ≡ 15) × (m ≡ refusal_of_shortest ls)
low-refused ls m e = let r = refused_is m (refusal_of_shortest ls) (total ls) [] e in (shortest-number ls r.1, sym r.0)

pub low-frames : (ls : List ℕ) (n : ℕ) → accepting (n ∷ []) ≡ answer_of (refusal_of_shortest ls) (total ls ∷ []) → (refusal_of_shortest ls ≡ 0) × (n ≡ total ls)
low-frames ls n e = let r = passed (refusal_of_shortest ls) (total ls) n e in (r.0, sym r.1)

-- ---- its loop: i of them are passed

module _ (ls : List ℕ) where
  pub record Looking (none : Bool) (sum i : ℕ) : Type 0 where
    pub within : i ≤ length ls
    pub so_far : (none || any_none (drop i ls)) ≡ any_none ls
    pub known : sum ≡ total (take i ls)
    pub small : sum ≤ i * 4294967295

  pub looking : Looking false 0 0
  unfolding total
  looking = record { within = zero-le; so_far = refl; known = refl; small = zero-le }

  module _ (none : Bool) (sum i : ℕ) (g : Looking none sum i) where
    pub looking-next : i < length ls → get_or ls i 0 ≤ 4294967295 → Looking (none || eqb (get_or ls i 0) 0) (sum + get_or ls i 0) (i + 1)
    unfolding any_none
    looking-next h f =
        record {
          within = omega arith;
          so_far = or_assoc none (eqb (get_or ls i 0) 0) (any_none (drop (i + 1) ls)) ∙ ap (λ (b : Bool). none || b) (rw (add-one, drop-cons ls i 0 h)) ∙ g.so_far;
          known = ap (λ (n : ℕ). n + get_or ls i 0) g.known ∙ sym (total-more ls i h);
          small = omega (arith, g.small);
        }

    pub looked : length ls ≤ i → (none ≡ any_none ls) × (sum ≡ total ls)
    unfolding any_none
    looked h = (
      sym (or-false none) ∙ ap (λ (l : List ℕ). none || any_none l) (sym (drop_of_length-le ls h)) ∙ g.so_far,
      g.known ∙ ap total (take_all i ls h),
    )
