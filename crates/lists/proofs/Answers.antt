-- Laws of answers, and of lent lists at exit.
use mathlib.Core.Path.{◌≡◌, refl, sym, ap, ◌∙◌}
use mathlib.Core.List.{List, [], ◌∷◌, ◌++◌}
use Prim.Native.Nat.{ℕ, zero, suc, ◌<◌, ◌≤◌}
use native.Mathlib.Omega.{arith}
use lib.ListN.{length, take, drop, get_or, length-append, length-drop, take-append-drop, get_or-append}
use Rattle.lists.specs.Answers.{Answer, accepting, refusing, given, answer_of, written}

-- equal numbers, values and places
abbrev pub Same : Answer → Answer → Type 0
Same a b = (a.number ≡ b.number) × (a.values ≡ b.values) × (a.place ≡ b.place)

pub same : {a b : Answer} → a ≡ b → Same a b
same e = (ap (λ (x : Answer). x.number) e, ap (λ (x : Answer). x.values) e, ap (λ (x : Answer). x.place) e)

-- of two the second is given, where the number is another than 0
pub given-none : {A : Type 0} (q : ℕ) (x y : A) → (q ≡ 0 → ⊥) → given q x y ≡ y
given-none zero x y z = absurd (z refl)
given-none (suc q) x y z = refl

-- each has what both have, the first where the number is 0
pub given-either : {A : Type 0} (P : A → Type 0) (k : ℕ) (x y : A) → (k ≡ 0 → P x) → P y → P (given k x y)
given-either P zero x y f q = f refl
given-either P (suc k) x y f q = q

-- a call of such a number answers with it alone
pub refused : (q : ℕ) (values : List ℕ) → (q ≡ 0 → ⊥) → refusing q ≡ answer_of q values
refused q values z = ap (λ (vs : List ℕ). record { number = q; values = vs; place = [] }) (sym (given-none q values [] z))

-- the same by the number
pub refused_as : (k q : ℕ) (values : List ℕ) → q ≡ suc k → refusing (suc k) ≡ answer_of q values
refused_as k q values e = rw e

-- and leaves its lists
pub untouched : {A : Type 0} (q : ℕ) (new old : List A) → (q ≡ 0 → ⊥) → old ≡ written q new old
untouched zero new old z = absurd (z refl)
untouched (suc q) new old z = refl

-- an accepted call answers with its values
pub accepted : (q : ℕ) (xs values : List ℕ) → q ≡ 0 → xs ≡ values → accepting xs ≡ answer_of q values
accepted q xs values z e = rw (z, e)

-- and has written its lists
pub in_front : {A : Type 0} (q n : ℕ) (new w old : List A) → q ≡ 0 → w ≡ new → length new ≡ n → w ++ drop n old ≡ written q new old
in_front q n new w old z e l = rw (z, e, l)

-- the same of a list by its front and what lies behind it
pub front-written : {A : Type 0} (q n : ℕ) (new l l' : List A) → q ≡ 0 → length new ≡ n → take n l' ≡ new → drop n l' ≡ drop n l → l' ≡ written q new l
front-written q n new l l' z e f d = sym (take-append-drop n l') ∙ rw (d) (in_front q n new (take n l') l z f e)

-- what is read there
pub written_at : {A : Type 0} (q n : ℕ) (new l l' : List A) (p : ℕ) (z : A) → l' ≡ written q new l → q ≡ 0 → length new ≡ n → p < n → get_or l' p z ≡ get_or new p z
written_at q n new l l' p z e k o h = rw (e, k) (get_or-append new (drop (length new) l) z p (omega arith))

-- a list that a call was lent is as long as it was, where there was room
pub written-long : {A : Type 0} (q : ℕ) (new old : List A) → length new ≤ length old → length (written q new old) ≡ length old
written-long zero new old h = length-append new (drop (length new) old) ∙ simp length-drop (omega arith)
written-long (suc q) new old h = refl

-- an answer without a value is a refusal
pub refused_is : (m k v : ℕ) (vs : List ℕ) → refusing m ≡ answer_of k (v ∷ vs) → (k ≡ m) × (k ≡ 0 → ⊥)
refused_is m zero v vs e = absurd (let q : ◌≡◌ {A = List ℕ} [] (v ∷ vs) = (same e).1 in let z : ◌≡◌ {A = ℕ} 0 1 = cc in omega arith)
refused_is m (suc k) v vs e = (sym (same e).0, λ q. omega arith)

-- and one with the number 0 is none
pub accepted_is : (a : Answer) (k : ℕ) (vs : List ℕ) → a ≡ answer_of k vs → a.number ≡ 0 → (k ≡ 0) × (a.values ≡ vs)
accepted_is a zero vs e z = (refl, (same e).1)
accepted_is a (suc k) vs e z = absurd (let n : a.number ≡ suc k = (same e).0 in omega arith)
