-- What a call answers, and what it leaves in a lent list.
use Rattle.std.specs.Prelude.{List, [], ◌∷◌, ◌++◌, ℕ, zero, suc, length, drop}

-- RULES, Forms: the number of an answer, 0 where nothing is refused; its values; and of a damaged job the place of a byte
pub record Answer : Type 0 where
  pub number : ℕ
  pub values : List ℕ
  pub place : List ℕ

-- a call is accepted with these values
abbrev pub accepting : List ℕ → Answer
accepting values = record { number = 0; values = values; place = [] }

-- RULES, Refusals: a refusal has a number and nothing else; a damaged job alone has, beside its number, a place
abbrev pub refusing : ℕ → Answer
refusing k = record { number = k; values = []; place = [] }

abbrev pub refusing_at : ℕ → ℕ → Answer
refusing_at k place = record { number = k; values = []; place = place ∷ [] }

-- the first of two where a call's refusal number is 0, for none, and the second where it refuses
abbrev pub given : {A : Type 0} → ℕ → A → A → A
given zero x y = x
given (suc k) x y = y

-- the answer of a call that refuses with this number, or has these values where that is 0
abbrev pub answer_of : ℕ → List ℕ → Answer
answer_of k values = record { number = k; values = given k values []; place = [] }

-- RULES, Refusals: a refused call leaves a lent list as it was, and an accepted one writes its own places alone: new in front of what was there
abbrev pub written : {A : Type 0} → ℕ → List A → List A → List A
written zero new old = new ++ drop (length new) old
written (suc k) new old = old
