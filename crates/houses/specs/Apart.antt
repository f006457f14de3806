-- The claim that houses don't see each other's calls, of any calls on a table.
use Rattle.std.specs.Prelude.{◌≡◌, false, List, ℕ}
use Rattle.houses.specs.Slots.{Table, slot_at, owns}
use Rattle.houses.specs.Promise.{table_refusal}
use Rattle.houses.specs.Calls.{Call, Run, own_calls, asked_in, Alike}

module _ {Ask Tell : Type 0} (M : Table → ℕ → Ask → Tell → Table → Type 0) where
  -- a house that asks the same of two tables that are alike to it is told the same, and they stay alike
  abbrev pub ToldTheSame : Type 0
  ToldTheSame = (house : ℕ) (asked : Ask) (x y : Tell) (t u t' u' : Table) → Alike house t u → M t house asked x t' → M u house asked y u' → (x ≡ y) × Alike house t' u'

  -- RULES, Houses, the claim: no call of a house changes a slot that is not its own
  pub record ChangesItsOwn : Type 0 where
    pub room : (house : ℕ) (asked : Ask) (x : Tell) (t t' : Table) → M t house asked x t' → table_refusal t' ≡ table_refusal t
    pub slots : (house : ℕ) (asked : Ask) (x : Tell) (t t' : Table) → M t house asked x t' → (s : ℕ) → owns house s ≡ false → slot_at t' s ≡ slot_at t s

  -- RULES, Houses, the claim: in two runs on tables that are alike to a house, in which it asks the same, it is told the same, and they are alike to it at the end
  abbrev pub Apart : Type 0
  Apart = (house : ℕ) (t u t' u' : Table) (xs ys : List (Call Ask Tell)) → Alike house t u → Run M t xs t' → Run M u ys u' → asked_in (own_calls house xs) ≡ asked_in (own_calls house ys)
      → (own_calls house xs ≡ own_calls house ys) × Alike house t' u'
