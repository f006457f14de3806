-- What the calls that write a record promise.
use Rattle.std.specs.Prelude.{◌≡◌, Result, List, cond, ℕ, length, ltb, Float}
use Rattle.lists.specs.Answers.{written}
use Rattle.lists.specs.Ends.{refused}
use Rattle.lists.specs.declared.Refusal.{Refusal}
use Rattle.model.specs.Record.{from_linear, to_linear}
use Rattle.model.specs.Mixing.{scaled, added}

-- RULES, Refusals: 6 where the output is shorter than the record
abbrev pub mul_refusal : List Float → List Float → ℕ
mul_refusal lin out = cond (ltb (length out) (length lin)) 6 0

-- the call `mul`
pub record MulSays (lin : List Float) (weight : Float) (out : List Float) (r : Result (Unit {0}) Refusal) (out' : List Float) : Type 0 where
  pub answer : refused r ≡ mul_refusal lin out
  pub output : out' ≡ written (mul_refusal lin out) (to_linear (scaled (from_linear lin) weight)) out

-- the call `mul_add_assign`; no refusal: the accumulator's own length says which record it is, so there is always room
pub record MulAddSays (lhs : List Float) (weight : Float) (rhs lhs' : List Float) : Type 0 where
  pub output : lhs' ≡ to_linear (added (from_linear lhs) weight (from_linear rhs))
