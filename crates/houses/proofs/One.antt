-- Two outcomes that a call's promise allows are equal, and there is one.
use mathlib.Core.Path.{◌≡◌, refl, sym, ◌∙◌}
use mathlib.Core.Bool.{Bool, true, false, cond}
use mathlib.Core.List.{List, [], ◌∷◌}
use Prim.Native.Nat.{ℕ, zero, suc}
use lib.Ieee.{Float}
use Rattle.std.proofs.Common.{Result, Ok, Err}
use Rattle.lists.specs.Answers.{answer_of}
use Rattle.lists.specs.Ends.{answered, refused}
use Rattle.lists.specs.Refusals.{number_of, or_else}
use Rattle.lists.specs.declared.Refusal.{Refusal}
use Rattle.lists.specs.declared.Refusal.TheVariants.{BadWindows, BadCoefficient, ListsDisagree, TooLittleRoom, NotYourSlot, SlotEmpty, SlotSet}
use Rattle.lists.specs.declared.Span.{Span}
use Rattle.lists.proofs.Answers.{same}
use Rattle.lists.proofs.Ends.{refuses, refused-one, counted-one, spanned-one}
use Rattle.model.specs.Windows.{window_refusal}
use Rattle.houses.specs.Slots.{Table}
use Rattle.houses.specs.Promise.{table_refusal, set_refusal, clear_refusal, use_refusal, free_refusal, ChangesTo, StartSays, SetSays, ClearSays, UseSays, FreeSays}
use Rattle.houses.specs.Calls.{Asked, to_set, to_clear, to_use, to_free, Told, Makes, set_made, clear_made, use_made, free_made}

-- of a call that changes a table
changes-one : {k : ℕ} {new t t₁ t₂ : Table} {q r : Result (Unit {0}) Refusal} → ChangesTo k new t q t₁ → ChangesTo k new t r t₂ → (q ≡ r) × (t₁ ≡ t₂)
changes-one {q = q} {r} a b = (refused-one q r (a.answer ∙ sym b.answer), a.left ∙ sym b.left)

module _ (t t₁ t₂ : Table) (q r : Result (Unit {0}) Refusal) where
  pub start-one : (common : ℕ) (ws : List ℕ) (cs : List Float) → StartSays t common ws cs q t₁ → StartSays t common ws cs r t₂ → (q ≡ r) × (t₁ ≡ t₂)
  start-one common ws cs = changes-one

  pub set-one : (house s : ℕ) (ws : List ℕ) (cs : List Float) → SetSays t house s ws cs q t₁ → SetSays t house s ws cs r t₂ → (q ≡ r) × (t₁ ≡ t₂)
  set-one house s ws cs = changes-one

  pub clear_one : (house s : ℕ) → ClearSays t house s q t₁ → ClearSays t house s r t₂ → (q ≡ r) × (t₁ ≡ t₂)
  clear_one house s = changes-one

-- and of one that asks
pub use_one : (t : Table) (house s : ℕ) (out out₁ out₂ : List ℕ) (q r : Result Span Refusal) → UseSays t house s out q out₁ → UseSays t house s out r out₂ → (q ≡ r) × (out₁ ≡ out₂)
use_one t house s out out₁ out₂ q r a b = (spanned-one q r (same (a.answer ∙ sym b.answer)), a.output ∙ sym b.output)

pub free_one : (t : Table) (house : ℕ) (q r : Result ℕ Refusal) → FreeSays t house q → FreeSays t house r → q ≡ r
free_one t house q r a b = counted-one q r (same (a ∙ sym b))

-- ---- there is one: each number is none, or a refusal's

abbrev Said : ℕ → Type 0
Said k = (r : Result (Unit {0}) Refusal) × (refused r ≡ k)

said-test : (b : Bool) (e : Refusal) → Said (cond b (number_of e) 0)
said-test true e = (Err e, refl)
said-test false e = (Ok tt, refl)

said-unless : (b : Bool) (e : Refusal) → Said (cond b 0 (number_of e))
said-unless true e = (Ok tt, refl)
said-unless false e = (Err e, refl)

said-then : (k n : ℕ) → Said k → Said n → Said (or_else k n)
said-then zero n s t = t
said-then (suc k) n s t = s

said-windows : (ws : List ℕ) (cs : List Float) → Said (window_refusal ws cs)
unfolding window_refusal
said-windows ws cs = said-then _ _ (said-unless _ BadWindows) (said-then _ _ (said-unless _ BadCoefficient) (said-unless _ ListsDisagree))

module _ (t : Table) where
  said-table : Said (table_refusal t)
  unfolding table_refusal
  said-table = said-test _ TooLittleRoom

  said-set : (house s : ℕ) (ws : List ℕ) (cs : List Float) → Said (set_refusal t house s ws cs)
  unfolding set_refusal
  said-set house s ws cs = said-then _ _ (said-unless _ NotYourSlot) (said-then _ _ (said-unless _ SlotSet) (said-then _ _ (said-windows ws cs) said-table))

  said-clear : (house s : ℕ) → Said (clear_refusal t house s)
  unfolding clear_refusal
  said-clear house s = said-then _ _ (said-unless _ NotYourSlot) (said-then _ _ (said-test _ SlotEmpty) said-table)

  said-use : (house s : ℕ) (out : List ℕ) → Said (use_refusal t house s out)
  unfolding use_refusal
  said-use house s out = said-then _ _ (said-unless _ NotYourSlot) (said-then _ _ (said-test _ SlotEmpty) (said-then _ _ said-table (said-test _ TooLittleRoom)))

  said-free : (house : ℕ) → Said (free_refusal t house)
  unfolding free_refusal
  said-free house = said-then _ _ (said-unless _ NotYourSlot) said-table

-- with a value beside it
said-with : {A : Type 0} (values : A → List ℕ) (a : A) (k : ℕ) → Said k → (r : Result A Refusal) × (answered values r ≡ answer_of k (values a))
said-with values a k (Ok u, e) = (Ok a, rw (← e))
said-with values a k (Err d, e) = (Err d, refuses d k (values a) e)

-- whatever a house asks, it is told something
pub makes_some : (t : Table) (house : ℕ) (asked : Asked) → (x : Told) × (t' : Table) × Makes t house asked x t'
makes_some t house (to_set s ws cs) = (_, _, set_made (record { answer = (said-set t house s ws cs).1; left = refl }))
makes_some t house (to_clear s) = (_, _, clear_made (record { answer = (said-clear t house s).1; left = refl }))
makes_some t house (to_use s out) = (_, t, use_made (record { answer = (said-with (λ (p : Span). p.first ∷ p.count ∷ []) (record { first = _; count = _ }) _ (said-use t house s out)).1; output = refl }))
makes_some t house to_free = (_, t, free_made (said-with (λ (n : ℕ). n ∷ []) _ _ (said-free t house)).1)
