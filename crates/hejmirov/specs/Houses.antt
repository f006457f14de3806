-- What the C calls of a table of window sets promise: a call below is made, and its answer taken apart; and these calls one after the other.
use Rattle.std.specs.Prelude.{◌≡◌, Result, List, ℕ, Float}
use Rattle.lists.specs.Ends.{counted, spanned, refused}
use Rattle.lists.specs.declared.Refusal.{Refusal}
use Rattle.lists.specs.declared.Span.{Span}
use Rattle.houses.specs.Slots.{Table}
use Rattle.houses.specs.Promise.{StartSays, SetSays, ClearSays, UseSays, FreeSays}
use Rattle.hejmirov.specs.Promise.{HandsOne, HandsTwo}

-- `hejmirov_table_start`
pub record TableStartCallSays (t : Table) (common : ℕ) (widths : List ℕ) (coefs : List Float) (r : ℕ) (t' : Table) : Type 0 where
  pub answer : Result (Unit {0}) Refusal
  pub says : StartSays t common widths coefs answer t'
  pub gives : r ≡ refused answer

-- `hejmirov_table_set`
pub record TableSetCallSays (t : Table) (house s : ℕ) (widths : List ℕ) (coefs : List Float) (r : ℕ) (t' : Table) : Type 0 where
  pub answer : Result (Unit {0}) Refusal
  pub says : SetSays t house s widths coefs answer t'
  pub gives : r ≡ refused answer

-- `hejmirov_table_clear`
pub record TableClearCallSays (t : Table) (house s r : ℕ) (t' : Table) : Type 0 where
  pub answer : Result (Unit {0}) Refusal
  pub says : ClearSays t house s answer t'
  pub gives : r ≡ refused answer

-- `hejmirov_table_use`
pub record TableUseCallSays (t : Table) (house s first : ℕ) (widths : List ℕ) (count r first' : ℕ) (widths' : List ℕ) (count' : ℕ) : Type 0 where
  pub answer : Result Span Refusal
  pub says : UseSays t house s widths answer widths'
  pub gives : HandsTwo (spanned answer) first count r first' count'

-- `hejmirov_table_free`
pub record TableFreeCallSays (t : Table) (house free r free' : ℕ) : Type 0 where
  pub answer : Result ℕ Refusal
  pub says : FreeSays t house answer
  pub gives : HandsOne (counted answer) free r free'

-- ---- calls of houses

-- what a house can ask, with what it lends and what stands behind its pointers
pub data CallAsked : Type 0 where
  to_set : (s : ℕ) (widths : List ℕ) (coefs : List Float) → CallAsked
  to_clear : (s : ℕ) → CallAsked
  to_use : (s first : ℕ) (widths : List ℕ) (count : ℕ) → CallAsked
  to_free : (free : ℕ) → CallAsked

-- all that it is told: the number, and what stands there afterwards
pub data CallTold : Type 0 where
  number : (r : ℕ) → CallTold
  used_as : (r first' : ℕ) (widths' : List ℕ) (count' : ℕ) → CallTold
  free_as : (r free' : ℕ) → CallTold

-- a house makes a call, and is told what its promise says: the table before, and after
pub data CallMakes : Table → ℕ → CallAsked → CallTold → Table → Type 0 where
  set_made : {t t' : Table} {house s r : ℕ} {widths : List ℕ} {coefs : List Float} → TableSetCallSays t house s widths coefs r t' → CallMakes t house (to_set s widths coefs) (number r) t'
  clear_made : {t t' : Table} {house s r : ℕ} → TableClearCallSays t house s r t' → CallMakes t house (to_clear s) (number r) t'
  use_made : {t : Table} {house s first count r first' count' : ℕ} {widths widths' : List ℕ} → TableUseCallSays t house s first widths count r first' widths' count'
      → CallMakes t house (to_use s first widths count) (used_as r first' widths' count') t
  free_made : {t : Table} {house free r free' : ℕ} → TableFreeCallSays t house free r free' → CallMakes t house (to_free free) (free_as r free') t
