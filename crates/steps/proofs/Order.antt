-- The order of keys is that of their numbers, and of two entries the sooner is found.
use mathlib.Core.Path.{◌≡◌, refl, sym, ◌∙◌, subst}
use mathlib.Core.Bool.{Bool, true, false, cond}
use mathlib.Core.Logic.{inl, inr}
use Prim.Native.Nat.{ℕ, ◌≤◌, ◌<◌}
use native.Mathlib.Nat.{le_refl}
use native.Mathlib.Omega.{arith}
use lib.Dec.{T, ltb}
use lib.Ieee.{Float, nan, inf, fin, binary64, fits, to_bits}
use borrow.Author.Tests.{ltb-true, ltb-false, lt-ltb, le-ltb}
use Rattle.lists.specs.Sizes.{most_states}
use Rattle.floats.specs.Order.{not_negative}
use Rattle.floats.proofs.Ordered.{bits-order, finite-below}
use Rattle.steps.specs.declared.costs.Entry.{Entry}
use Rattle.steps.specs.Steps.{Key, sooner}
use Rattle.steps.specs.Steps.Key.{Fixed, Cost}
use Rattle.steps.specs.Inner.Scores.{rank, score, scores, keyed, sooner_of}
use Rattle.steps.specs.Inner.Tree.{Lesser}

pub clash : {A : Type 0} → ◌≡◌ {A = Bool} true false → A
clash e = absurd (subst T e tt)

-- a key whose cost has no sign, as each has
pub data Sound : Key → Type 0 where
  fixed : Sound Fixed
  cost : {x : Float} → T (fits binary64 x) → T (not_negative x) → Sound (Cost x)

before-fixed : (x : Float) → T (fits binary64 x) → T (not_negative x) → to_bits binary64 x < rank Fixed
unfolding to_bits
before-fixed nan f p = omega arith
before-fixed (inf true) f p = absurd p
before-fixed (inf false) f p = omega arith
before-fixed (fin true m e) f p = absurd p
before-fixed (fin false m e) f p = let h : to_bits binary64 (fin false m e) < 0x7ff0_0000_0000_0000 = finite-below (fin false m e) f tt tt in omega arith

pub sooner-rank : {a b : Key} → Sound a → Sound b → sooner a b ≡ ltb (rank a) (rank b)
sooner-rank fixed fixed = sym (le-ltb (rank Fixed) (rank Fixed) (le_refl (rank Fixed)))
sooner-rank fixed (cost {x = y} g q) = sym (le-ltb (rank Fixed) (to_bits binary64 y) (let h : to_bits binary64 y < rank Fixed = before-fixed y g q in omega arith))
sooner-rank (cost {x = x} f p) fixed = sym (lt-ltb (to_bits binary64 x) (rank Fixed) (before-fixed x f p))
sooner-rank (cost {x = x} f p) (cost {x = y} g q) = sym (bits-order x y f g p q)

pub later_trans : {a b c : Key} → Sound a → Sound b → Sound c → sooner a b ≡ false → sooner b c ≡ false → sooner a c ≡ false
later_trans {a} {b} {c} p q r e f =
    let h : rank b ≤ rank a = ltb-false (rank a) (rank b) (sym (sooner-rank p q) ∙ e) in
    let k : rank c ≤ rank b = ltb-false (rank b) (rank c) (sym (sooner-rank q r) ∙ f) in
    sooner-rank p r ∙ le-ltb (rank a) (rank c) (omega arith)

pub sooner_asym : {a b : Key} → Sound a → Sound b → sooner a b ≡ true → sooner b a ≡ false
sooner_asym {a} {b} p q e = let h : rank a < rank b = ltb-true (rank a) (rank b) (sym (sooner-rank p q) ∙ e) in sooner-rank q p ∙ le-ltb (rank b) (rank a) (omega arith)

pub sooner_self : {a : Key} → Sound a → sooner a a ≡ false
sooner_self {a} p = sooner-rank p p ∙ le-ltb (rank a) (rank a) (le_refl (rank a))

ltb-same : (a b c d : ℕ) → (a < b → c < d) → (b ≤ a → d ≤ c) → ltb a b ≡ ltb c d
ltb-same a b c d f g = (elim (ltb a b) as (λ s. ltb a b ≡ s → s ≡ ltb c d) [ true ↦ λ e. sym (lt-ltb c d (f (ltb-true a b e))) | false ↦ λ e. sym (le-ltb c d (g (ltb-false a b e))) ]) refl

-- scores come as the keys do, and on a tie as the places do
pub score_tie : (k l p q : ℕ) → k ≡ l → ltb p q ≡ ltb (score k p) (score l q)
score_tie k l p q e = ltb-same p q (score k p) (score l q) (λ h. omega arith) (λ h. omega arith)

pub score_key : (k l p q : ℕ) → (k ≡ l → ⊥) → p < most_states → q < most_states → ltb k l ≡ ltb (score k p) (score l q)
score_key k l p q ne f g = ltb-same k l (score k p) (score l q) (λ h. omega arith) (λ h. omega arith)

-- of the entries of two places, that of the lesser score
pub sooner_lesser : (K : ℕ → ℕ) (a b : ℕ) (x y r : Entry) → x ≡ keyed K a → y ≡ keyed K b → r ≡ sooner_of x y → (r ≡ keyed K r.place) × Lesser (scores K) a b r.place
sooner_lesser K a b x y r p q e =
    (elim (ltb (scores K b) (scores K a)) as (λ s. ltb (scores K b) (scores K a) ≡ s → (r ≡ keyed K r.place) × Lesser (scores K) a b r.place) [
      | true ↦ λ t.
          let w : r ≡ keyed K b = e ∙ rw (p, q, t) in
          let h : scores K b < scores K a = ltb-true _ _ t in
          rw w (refl, record { one = inr refl; left = omega arith; right = le_refl (scores K b) })
      | false ↦ λ t.
          let w : r ≡ keyed K a = e ∙ rw (p, q, t) in
          rw w (refl, record { one = inl refl; left = le_refl (scores K a); right = ltb-false _ _ t })
    ])
    refl

pub sooner_in : (x y r : Entry) (n : ℕ) → r ≡ sooner_of x y → x.place < n → y.place < n → r.place < n
sooner_in x y r n e h l =
    (elim (ltb (score y.key y.place) (score x.key x.place)) as (λ s. r ≡ cond s y x → r.place < n) [
      | true ↦ λ w. rw w l
      | false ↦ λ w. rw w h
    ])
    e
