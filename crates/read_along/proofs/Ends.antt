-- Laws of how a call of words ends: with its values, or refused.
use Rattle.std.proofs.Common.{lit<, ◌≡◌, refl, sym, ap, ◌∙◌, cond, Result, Ok, Err, List, [], ◌∷◌, ℕ, ◌<◌, eqb, arith}
use Rattle.lists.specs.declared.Span.{Span as Part}
use Rattle.lists.proofs.Answers.{Same}
use Rattle.read_along.specs.declared.WordsRefusal.{WordsRefusal}
use Rattle.read_along.specs.declared.WordsRefusal.TheVariants.{WordsDisagree, NoSuchWord, Malformed, TooLittleRoom, BadTiming}
use Rattle.read_along.specs.Promise.{number_of, answered_as, counted_as, parted_as}

-- no refusal has the number 0
some_number : (e : WordsRefusal) → 0 < number_of e
some_number WordsDisagree = lit< tt
some_number NoSuchWord = lit< tt
some_number Malformed = lit< tt
some_number TooLittleRoom = lit< tt
some_number BadTiming = lit< tt

pub none_refuses : (e : WordsRefusal) → number_of e ≡ 0 → ⊥
none_refuses e z = let h = some_number e in omega arith

-- and no two have the same
named : ℕ → WordsRefusal
named n = cond (eqb n 1) WordsDisagree (cond (eqb n 2) NoSuchWord (cond (eqb n 3) Malformed (cond (eqb n 4) TooLittleRoom BadTiming)))

named-number : (e : WordsRefusal) → named (number_of e) ≡ e
unfolding named
named-number WordsDisagree = refl
named-number NoSuchWord = refl
named-number Malformed = refl
named-number TooLittleRoom = refl
named-number BadTiming = refl

number-one : (d e : WordsRefusal) → number_of d ≡ number_of e → d ≡ e
number-one d e q = sym (named-number d) ∙ ap named q ∙ named-number e

-- number and values tell an answer, where the values tell the result
answered-told : {A : Type 0} (values : A → List ℕ) → ((a b : A) → values a ≡ values b → a ≡ b) → (r s : Result A WordsRefusal) → Same (answered_as values r) (answered_as values s) → r ≡ s
answered-told values one (Ok a) (Ok b) e = ap Ok (one a b e.1)
answered-told values one (Ok a) (Err d) e = absurd (none_refuses d (sym e.0))
answered-told values one (Err d) (Ok b) e = absurd (none_refuses d e.0)
answered-told values one (Err d) (Err c) e = ap Err (number-one d c e.0)

pub counted-told : (r s : Result ℕ WordsRefusal) → Same (counted_as r) (counted_as s) → r ≡ s
counted-told = answered-told (λ n. n ∷ []) (λ a b e. cc)

pub parted-told : (r s : Result Part WordsRefusal) → Same (parted_as r) (parted_as s) → r ≡ s
parted-told = answered-told (λ p. p.first ∷ p.count ∷ []) (λ a b e. let f : a.first ≡ b.first = cc in let g : a.count ≡ b.count = cc in ap (λ (n : ℕ). record { first = n; count = a.count }) f ∙ ap (λ (n : ℕ). record { first = b.first; count = n }) g)
