-- Calls of houses one after the other, as their promises say, and what a house sees of a table.
use Rattle.std.specs.Prelude.{◌≡◌, Result, true, cond, List, [], ◌∷◌, ℕ, eqb, Float}
use Rattle.lists.specs.declared.Refusal.{Refusal}
use Rattle.lists.specs.declared.Span.{Span}
use Rattle.houses.specs.Slots.{Table, slot_at, may_use}
use Rattle.houses.specs.Promise.{table_refusal, SetSays, ClearSays, UseSays, FreeSays}

-- what a house can ask, and what it lends with it
pub data Asked : Type 0 where
  to_set : (s : ℕ) (widths : List ℕ) (coefficients : List Float) → Asked
  to_clear : (s : ℕ) → Asked
  to_use : (s : ℕ) (widths : List ℕ) → Asked
  to_free : Asked

-- all that it is told: the answer, and what it lent at exit
pub data Told : Type 0 where
  changed : Result (Unit {0}) Refusal → Told
  told_used : Result Span Refusal → (widths' : List ℕ) → Told
  told_count : Result ℕ Refusal → Told

-- a house asks, and is told what the call's promise says: the table before, and after
pub data Makes : Table → ℕ → Asked → Told → Table → Type 0 where
  set_made : {t t' : Table} {house s : ℕ} {widths : List ℕ} {coefficients : List Float} {r : Result (Unit {0}) Refusal} → SetSays t house s widths coefficients r t' → Makes t house (to_set s widths coefficients) (changed r) t'
  clear_made : {t t' : Table} {house s : ℕ} {r : Result (Unit {0}) Refusal} → ClearSays t house s r t' → Makes t house (to_clear s) (changed r) t'
  use_made : {t : Table} {house s : ℕ} {widths widths' : List ℕ} {r : Result Span Refusal} → UseSays t house s widths r widths' → Makes t house (to_use s widths) (told_used r widths') t
  free_made : {t : Table} {house : ℕ} {r : Result ℕ Refusal} → FreeSays t house r → Makes t house to_free (told_count r) t

-- one call of a house: what it asked, and what it was told
pub record Call (Ask Tell : Type 0) : Type 0 where
  pub house : ℕ
  pub asked : Ask
  pub told : Tell

abbrev pub call : {Ask Tell : Type 0} → ℕ → Ask → Tell → Call Ask Tell
call house asked told = record { house = house; asked = asked; told = told }

-- calls of any houses, one after the other, each as a promise M says: the table before them, and after them
pub data Run {Ask Tell : Type 0} (M : Table → ℕ → Ask → Tell → Table → Type 0) : Table → List (Call Ask Tell) → Table → Type 0 where
  none : {t : Table} → Run M t [] t
  call_then : {t t' t'' : Table} {house : ℕ} {asked : Ask} {told : Tell} {calls : List (Call Ask Tell)} → M t house asked told t' → Run M t' calls t'' → Run M t (call house asked told ∷ calls) t''

module _ {Ask Tell : Type 0} where
  -- the calls of one house
  unfoldable pub own_calls : ℕ → List (Call Ask Tell) → List (Call Ask Tell)
  own_calls house [] = []
  own_calls house (c ∷ cs) = cond (eqb c.house house) (c ∷ own_calls house cs) (own_calls house cs)

  -- what was asked
  unfoldable pub asked_in : List (Call Ask Tell) → List Ask
  asked_in [] = []
  asked_in (c ∷ cs) = c.asked ∷ asked_in cs

-- RULES, Houses, the claim: two tables in which the slots that a house may use are the same, to the last number, and both of which are too short or neither is
pub record Alike (house : ℕ) (t u : Table) : Type 0 where
  pub room : table_refusal t ≡ table_refusal u
  pub slots : (s : ℕ) → may_use house s ≡ true → slot_at t s ≡ slot_at u s
