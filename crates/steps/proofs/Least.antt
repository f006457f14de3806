-- The place of the first least key.
use mathlib.Core.Path.{◌≡◌, refl, sym, ◌∙◌}
use mathlib.Core.Bool.{true, false, cond}
use mathlib.Core.Logic.{⊎_elim}
use mathlib.Core.List.{List, [], ◌∷◌}
use Prim.Native.Nat.{ℕ, zero, suc, ◌≤◌, ◌<◌, suc-le-suc}
use native.Mathlib.Nat.{not-suc-le-zero}
use native.Mathlib.Omega.{arith}
use lib.ListN.{length, get_or}
use borrow.Author.Tests.{ltb-true, ltb-false}
use Rattle.lists.specs.Sizes.{most_states}
use Rattle.lists.proofs.Numbers.{le_or_lt}
use Rattle.steps.specs.Steps.{Key, sooner, least_of}
use Rattle.steps.specs.Steps.Key.{Fixed}
use Rattle.steps.specs.Inner.Scores.{rank, score}
use Rattle.steps.proofs.Order.{Sound, sooner-rank, later_trans, sooner_asym, sooner_self}

abbrev pub least_key : List Key → Key
least_key ks = get_or ks (least_of ks) Fixed

-- the first key is the least of all, or the least of the others is
module _ (x : Key) (xs : List Key) where
  pub least_first : sooner (least_key xs) x ≡ false → (least_of (x ∷ xs) ≡ 0) × (least_key (x ∷ xs) ≡ x)
  unfolding least_of
  least_first e = (rw e, rw e)

  pub least-later : sooner (least_key xs) x ≡ true → (least_of (x ∷ xs) ≡ suc (least_of xs)) × (least_key (x ∷ xs) ≡ least_key xs)
  unfolding least_of
  least-later e = (rw e, rw e)

in_rest : (x : Key) (xs : List Key) → least_of (x ∷ xs) < length (x ∷ xs)
unfolding least_of
in_rest x [] = omega arith
in_rest x (y ∷ ys) =
    elim (sooner (least_key (y ∷ ys)) x) as (λ s. cond s (suc (least_of (y ∷ ys))) 0 < length (x ∷ y ∷ ys)) [
      | true ↦ suc-le-suc (in_rest y ys)
      | false ↦ omega arith
    ]

pub least_in : (ks : List Key) → 0 < length ks → least_of ks < length ks
least_in [] h = absurd (not-suc-le-zero h)
least_in (x ∷ xs) h = in_rest x xs

no_sooner : (x : Key) (xs : List Key) (k : Key) → sooner x k ≡ false → ((i : ℕ) → sooner (get_or xs i Fixed) k ≡ false) → (j : ℕ) → sooner (get_or (x ∷ xs) j Fixed) k ≡ false
no_sooner x xs k e f zero = e
no_sooner x xs k e f (suc j) = f j

all-later : (x : Key) (xs : List Key) (k : Key) (n : ℕ) → sooner k x ≡ true → ((i : ℕ) → i < n → sooner k (get_or xs i Fixed) ≡ true) → (j : ℕ) → j < suc n → sooner k (get_or (x ∷ xs) j Fixed) ≡ true
all-later x xs k n e f zero h = e
all-later x xs k n e f (suc j) h = f j (omega arith)

-- no key is sooner than the least, and the least is sooner than each before it
pub least_is_least : (ks : List Key) → ((j : ℕ) → Sound (get_or ks j Fixed)) → (j : ℕ) → sooner (get_or ks j Fixed) (least_key ks) ≡ false
least_is_least [] all j = refl
least_is_least (x ∷ xs) all j =
    (elim (sooner (least_key xs) x) as (λ s. sooner (least_key xs) x ≡ s → sooner (get_or (x ∷ xs) j Fixed) (least_key (x ∷ xs)) ≡ false) [
      | true ↦ λ e. rw (least-later x xs e).1 (no_sooner x xs (least_key xs) (sooner_asym (all (suc (least_of xs))) (all 0) e) (λ i. least_is_least xs (λ k. all (suc k)) i) j)
      | false ↦ λ e. rw (least_first x xs e).1 (no_sooner x xs x (sooner_self (all 0)) (λ i. later_trans (all (suc i)) (all (suc (least_of xs))) (all 0) (least_is_least xs (λ k. all (suc k)) i) e) j)
    ])
    refl

pub least_is_first : (ks : List Key) → ((j : ℕ) → Sound (get_or ks j Fixed)) → (j : ℕ) → j < least_of ks → sooner (least_key ks) (get_or ks j Fixed) ≡ true
least_is_first [] all j = unfold least_of in λ h. absurd (not-suc-le-zero h)
least_is_first (x ∷ xs) all j =
    (elim (sooner (least_key xs) x) as (λ s. sooner (least_key xs) x ≡ s → j < least_of (x ∷ xs) → sooner (least_key (x ∷ xs)) (get_or (x ∷ xs) j Fixed) ≡ true) [
      | true ↦ λ e h. rw (least-later x xs e).1 (all-later x xs (least_key xs) (least_of xs) e (λ i. least_is_first xs (λ k. all (suc k)) i) j (rw (least-later x xs e).0 at h))
      | false ↦ λ e h. absurd (not-suc-le-zero (rw (least_first x xs e).0 at h))
    ])
    refl

-- so the place of the least score is the least key's
pub least-score : (ks : List Key) → ((j : ℕ) → Sound (get_or ks j Fixed)) → length ks ≤ most_states → (p : ℕ) → p < length ks → ((j : ℕ) → j < length ks → score (rank (get_or ks p Fixed)) p ≤ score (rank (get_or ks j Fixed)) j) → p ≡ least_of ks
least-score ks all few p h least =
    let q : ℕ = least_of ks in
    let i : least_of ks < length ks = least_in ks (omega arith) in
    let l : score (rank (get_or ks p Fixed)) p ≤ score (rank (least_key ks)) (least_of ks) = least q i in
    let g : rank (least_key ks) ≤ rank (get_or ks p Fixed) = ltb-false _ _ (sym (sooner-rank (all p) (all q)) ∙ least_is_least ks all p) in
    ⊎_elim
    (λ (m : q ≤ p). omega arith)
    (λ (m : p < q). absurd (let n : rank (least_key ks) < rank (get_or ks p Fixed) = ltb-true _ _ (sym (sooner-rank (all q) (all p)) ∙ least_is_first ks all p m) in omega arith))
    (le_or_lt q p)
