-- How a call ends: with its values, or refused.
use Rattle.std.specs.Prelude.{Result, Ok, Err, List, [], ◌∷◌, ℕ}
use Rattle.lists.specs.Answers.{Answer, accepting, refusing}
use Rattle.lists.specs.Refusals.{number_of}
use Rattle.lists.specs.declared.Refusal.{Refusal}
use Rattle.lists.specs.declared.Span.{Span}

-- RULES, Forms: number and values of an answer, which has these values where nothing is refused
abbrev pub answered : {A : Type 0} → (A → List ℕ) → Result A Refusal → Answer
answered values (Ok a) = accepting (values a)
answered values (Err e) = refusing (number_of e)

-- of one that has a count
abbrev pub counted : Result ℕ Refusal → Answer
counted = answered (λ n. n ∷ [])

-- of one that has a span
abbrev pub spanned : Result Span Refusal → Answer
spanned = answered (λ s. s.first ∷ s.count ∷ [])

-- and the number alone of one that has no value
abbrev pub refused : Result (Unit {0}) Refusal → ℕ
refused (Ok done) = 0
refused (Err e) = number_of e
