-- The refusals of the lists' lengths: each way out of the tests, and what it means that there is none.
use mathlib.Core.Path.{◌≡◌, refl}
use mathlib.Core.Bool.{Bool, true, false, not, cond}
use Prim.Native.Nat.{ℕ, suc, ◌*◌, ◌≤◌, ◌<◌}
use native.Mathlib.Nat.{mul-one, mul-le-mul_left}
use native.Mathlib.Omega.{arith}
use lib.Dec.{ltb, eqb}
use borrow.Author.Tests.{ltb-false, lt-ltb, le-ltb, eq-eqb, ne_eqb, eqb-true, not-false}
use Rattle.duration.specs.Promise.{refusal_of_lists, refusal_of_labels}

module _ (n v l o w : ℕ) where
  pub states-over : 4096 < n → 3 ≡ refusal_of_lists n v l o w
  unfolding refusal_of_lists
  states-over h = rw (lt-ltb 4096 n h)

  module _ (few : n ≤ 4096) where
    pub varis_differ : (v ≡ n → ⊥) → 4 ≡ refusal_of_lists n v l o w
    unfolding refusal_of_lists
    varis_differ h = rw (le-ltb 4096 n few, ne_eqb v n h)

    module _ (agree : v ≡ n) where
      pub shortest_differ : (l ≡ n → ⊥) → 4 ≡ refusal_of_lists n v l o w
      unfolding refusal_of_lists
      shortest_differ h = rw (le-ltb 4096 n few, eq-eqb v n agree, ne_eqb l n h)

      module _ (also : l ≡ n) where
        pub output-short : o < n → 6 ≡ refusal_of_lists n v l o w
        unfolding refusal_of_lists
        output-short h = rw (le-ltb 4096 n few, eq-eqb v n agree, eq-eqb l n also, lt-ltb o n h)

        module _ (room : n ≤ o) where
          pub work-short : w < n → 6 ≡ refusal_of_lists n v l o w
          unfolding refusal_of_lists
          work-short h = rw (le-ltb 4096 n few, eq-eqb v n agree, eq-eqb l n also, le-ltb o n room, lt-ltb w n h)

          pub lists-fit : n ≤ w → 0 ≡ refusal_of_lists n v l o w
          unfolding refusal_of_lists
          lists-fit h = rw (le-ltb 4096 n few, eq-eqb v n agree, eq-eqb l n also, le-ltb o n room, le-ltb w n h)

-- as many labels as states, or fewer, are all that can agree
too_many : (k l n : ℕ) → 1 ≤ k → n < l → l * k ≡ n → ⊥
too_many k l n h m e = omega (arith, mul-le-mul_left l h, mul-one l)

module _ (k m n v l o w : ℕ) where
  pub labels-over : 4096 < n → 3 ≡ refusal_of_labels k m n v l o w
  unfolding refusal_of_labels
  labels-over h = rw (lt-ltb 4096 n h)

  module _ (few : n ≤ 4096) where
    pub width-none : k < 1 → 3 ≡ refusal_of_labels k m n v l o w
    unfolding refusal_of_labels
    width-none h = rw (le-ltb 4096 n few, lt-ltb k 1 h)

    module _ (some : 1 ≤ k) where
      pub width-over : 16 < k → 3 ≡ refusal_of_labels k m n v l o w
      unfolding refusal_of_labels
      width-over h = rw (le-ltb 4096 n few, le-ltb k 1 some, lt-ltb 16 k h)

      module _ (wide : k ≤ 16) where
        pub labels_differ : (m * k ≡ n → ⊥) → 4 ≡ refusal_of_labels k m n v l o w
        unfolding refusal_of_labels
        labels_differ h = rw (le-ltb 4096 n few, le-ltb k 1 some, le-ltb 16 k wide, ne_eqb (m * k) n h)

        pub labels-many : n < m → 4 ≡ refusal_of_labels k m n v l o w
        labels-many h = labels_differ (too_many k m n some h)

        pub labels-agree : (r : ℕ) → m * k ≡ n → r ≡ refusal_of_lists n v l o w → r ≡ refusal_of_labels k m n v l o w
        unfolding refusal_of_labels
        labels-agree r h e = rw (le-ltb 4096 n few, le-ltb k 1 some, le-ltb 16 k wide, eq-eqb (m * k) n h) e

-- ---- no refusal

pub cond-none : (b : Bool) (k l : ℕ) → cond b (suc k) l ≡ 0 → (b ≡ false) × (l ≡ 0)
cond-none true k l h = absurd (omega arith)
cond-none false k l h = (refl, h)

cond-le : (b : Bool) (k l m : ℕ) → k ≤ m → l ≤ m → cond b k l ≤ m
cond-le true k l m p q = p
cond-le false k l m p q = q

pub record Fitting (n v l o w : ℕ) : Type 0 where
  pub few : n ≤ 4096
  pub agree : v ≡ n
  pub shortest : l ≡ n
  pub output : n ≤ o
  pub workspace : n ≤ w

pub fitting : (n v l o w : ℕ) → refusal_of_lists n v l o w ≡ 0 → Fitting n v l o w
unfolding refusal_of_lists
fitting n v l o w h =
    let a = cond-none (ltb 4096 n) 2 _ h in
    let b = cond-none (not (eqb v n)) 3 _ a.1 in
    let s = cond-none (not (eqb l n)) 3 _ b.1 in
    let c = cond-none (ltb o n) 5 _ s.1 in
    let d = cond-none (ltb w n) 5 _ c.1 in
    record {
      few = ltb-false 4096 n a.0;
      agree = eqb-true v n (not-false (eqb v n) b.0);
      shortest = eqb-true l n (not-false (eqb l n) s.0);
      output = ltb-false o n c.0;
      workspace = ltb-false w n d.0;
    }

pub record Labels (k m n : ℕ) : Type 0 where
  pub some : 1 ≤ k
  pub narrow : k ≤ 16
  pub cover : m * k ≡ n

pub labelled : (k m n v l o w : ℕ) → refusal_of_labels k m n v l o w ≡ 0 → Labels k m n × Fitting n v l o w
unfolding refusal_of_labels
labelled k m n v l o w h =
    let a = cond-none (ltb 4096 n) 2 _ h in
    let b = cond-none (ltb k 1) 2 _ a.1 in
    let c = cond-none (ltb 16 k) 2 _ b.1 in
    let d = cond-none (not (eqb (m * k) n)) 3 _ c.1 in
    (record { some = ltb-false k 1 b.0; narrow = ltb-false 16 k c.0; cover = eqb-true (m * k) n (not-false (eqb (m * k) n) d.0) }, fitting n v l o w d.1)

-- ---- they are at most 6

pub lists-early : (n v l o w : ℕ) → refusal_of_lists n v l o w ≤ 6
unfolding refusal_of_lists
lists-early n v l o w =
    cond-le (ltb 4096 n) 3 _ 6 (omega arith)
    (cond-le (not (eqb v n)) 4 _ 6 (omega arith)
    (cond-le (not (eqb l n)) 4 _ 6 (omega arith)
    (cond-le (ltb o n) 6 _ 6 (omega arith)
    (cond-le (ltb w n) 6 0 6 (omega arith) (omega arith)))))

pub labels-early : (k m n v l o w : ℕ) → refusal_of_labels k m n v l o w ≤ 6
unfolding refusal_of_labels
labels-early k m n v l o w = cond-le (ltb 4096 n) 3 _ 6 (omega arith) (cond-le (ltb k 1) 3 _ 6 (omega arith) (cond-le (ltb 16 k) 3 _ 6 (omega arith) (cond-le (not (eqb (m * k) n)) 4 _ 6 (omega arith) (lists-early n v l o w))))
