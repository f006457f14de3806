-- Laws of how a call ends: with its values, or refused.
use Rattle.std.proofs.Common.{lit<, ◌≡◌, refl, sym, ap, ◌∙◌, cond, Result, Ok, Err, List, [], ◌∷◌, ℕ, zero, suc, ◌<◌, eqb, arith}
use Rattle.lists.specs.Answers.{refusing, answer_of}
use Rattle.lists.specs.Refusals.{number_of, or_else}
use Rattle.lists.specs.Ends.{answered, counted, spanned, refused}
use Rattle.lists.specs.declared.Refusal.{Refusal}
use Rattle.lists.specs.declared.Refusal.TheVariants.{BadWindows, BadCoefficient, BadSize, ListsDisagree, TooManyFrames, TooLittleRoom, TargetTooLong, EstimateTooLong, NoSuchPlace, JobEnded, BadShortest, SettingsVersion, StoreFull, SettingsMalformed, VoiceNotHeld, RunWithGv, NoSuchRun, RunFirstWindow, NotYourSlot, SlotEmpty, SlotSet}
use Rattle.lists.specs.declared.Span.{Span}
use Rattle.lists.proofs.Answers.{Same, same, refused as refused-answers}

-- no refusal has the number 0
pub some_number : (e : Refusal) → 0 < number_of e
some_number BadWindows = lit< tt
some_number BadCoefficient = lit< tt
some_number BadSize = lit< tt
some_number ListsDisagree = lit< tt
some_number TooManyFrames = lit< tt
some_number TooLittleRoom = lit< tt
some_number TargetTooLong = lit< tt
some_number EstimateTooLong = lit< tt
some_number NoSuchPlace = lit< tt
some_number JobEnded = lit< tt
some_number BadShortest = lit< tt
some_number SettingsVersion = lit< tt
some_number StoreFull = lit< tt
some_number SettingsMalformed = lit< tt
some_number VoiceNotHeld = lit< tt
some_number RunWithGv = lit< tt
some_number NoSuchRun = lit< tt
some_number RunFirstWindow = lit< tt
some_number NotYourSlot = lit< tt
some_number SlotEmpty = lit< tt
some_number SlotSet = lit< tt

-- and no two have the same
named : ℕ → Refusal
named n = cond (eqb n 1) BadWindows (cond (eqb n 2) BadCoefficient (cond (eqb n 3) BadSize (cond (eqb n 4) ListsDisagree (cond (eqb n 5) TooManyFrames (cond (eqb n 6) TooLittleRoom (cond (eqb n 7) TargetTooLong (cond (eqb n 8) EstimateTooLong (cond (eqb n 10) NoSuchPlace (cond (eqb n 11) JobEnded (cond (eqb n 15) BadShortest (cond (eqb n 16) SettingsVersion (cond (eqb n 17) StoreFull (cond (eqb n 18) SettingsMalformed (cond (eqb n 19) VoiceNotHeld (cond (eqb n 20) RunWithGv (cond (eqb n 21) NoSuchRun (cond (eqb n 22) RunFirstWindow (cond (eqb n 23) NotYourSlot (cond (eqb n 24) SlotEmpty SlotSet)))))))))))))))))))

named-number : (e : Refusal) → named (number_of e) ≡ e
unfolding named
named-number BadWindows = refl
named-number BadCoefficient = refl
named-number BadSize = refl
named-number ListsDisagree = refl
named-number TooManyFrames = refl
named-number TooLittleRoom = refl
named-number TargetTooLong = refl
named-number EstimateTooLong = refl
named-number NoSuchPlace = refl
named-number JobEnded = refl
named-number BadShortest = refl
named-number SettingsVersion = refl
named-number StoreFull = refl
named-number SettingsMalformed = refl
named-number VoiceNotHeld = refl
named-number RunWithGv = refl
named-number NoSuchRun = refl
named-number RunFirstWindow = refl
named-number NotYourSlot = refl
named-number SlotEmpty = refl
named-number SlotSet = refl

pub number-one : (d e : Refusal) → number_of d ≡ number_of e → d ≡ e
number-one d e q = sym (named-number d) ∙ ap named q ∙ named-number e

-- what is the number of a refusal is not 0
pub not_none : (e : Refusal) (k : ℕ) → number_of e ≡ k → k ≡ 0 → ⊥
not_none e k q z = let h = some_number e in omega arith

-- a refusal that applies is given, whatever comes after
pub stops : (e : Refusal) (k rest : ℕ) → number_of e ≡ k → number_of e ≡ or_else k rest
stops e zero rest q = absurd (let h = some_number e in omega arith)
stops e (suc k) rest q = q

-- what comes after, where none applies
pub passes : (k rest : ℕ) → 0 ≡ k → or_else k rest ≡ rest
passes k rest q = rw (← q)

-- a refused call answers with its number alone
pub refuses : (e : Refusal) (k : ℕ) (values : List ℕ) → number_of e ≡ k → refusing (number_of e) ≡ answer_of k values
refuses e k values q = rw (← q) (refused-answers (number_of e) values (λ z. let h = some_number e in omega arith))

pub not-counted : (e : Refusal) (k n : ℕ) → number_of e ≡ k → counted (Err e) ≡ answer_of k (n ∷ [])
not-counted e k n = refuses e k (n ∷ [])

-- an answer of number k that is a refusal: the number is given, whatever comes after
pub stopped : (k n : ℕ) (e : Refusal) → counted (Err e) ≡ answer_of k (n ∷ []) → (0 < number_of e) × ((rest : ℕ) → or_else k rest ≡ number_of e)
stopped k n e q = let z : number_of e ≡ k = (same q).0 in (some_number e, λ rest. sym (stops e k rest z))

pub passed : (k n m : ℕ) → counted (Ok m) ≡ answer_of k (n ∷ []) → (k ≡ 0) × (n ≡ m)
passed zero n m q = let v = (same q).1 in (refl, cc)
passed (suc k) n m q = absurd (let z : 0 ≡ suc k = (same q).0 in omega arith)

-- a number other than 0 is that of a refusal, and what is done has none
pub refused_with : (r : Result (Unit {0}) Refusal) (k : ℕ) → refused r ≡ k → (k ≡ 0 → ⊥) → (e : Refusal) × (r ≡ Err e) × (number_of e ≡ k)
refused_with (Ok done) k q z = absurd (z (sym q))
refused_with (Err e) k q z = (e, refl, q)

pub done_none : (k : ℕ) → refused (Ok tt) ≡ k → k ≡ 0
done_none k q = sym q

-- number and values say which answer it is, where the values say which result
pub answered-one : {A : Type 0} (values : A → List ℕ) → ((a b : A) → values a ≡ values b → a ≡ b) → (x y : Result A Refusal) → Same (answered values x) (answered values y) → x ≡ y
answered-one values one (Ok a) (Ok b) s = ap Ok (one a b s.1)
answered-one values one (Ok a) (Err e) s = absurd (let h = some_number e in let z = s.0 in omega arith)
answered-one values one (Err d) (Ok b) s = absurd (let h = some_number d in let z = s.0 in omega arith)
answered-one values one (Err d) (Err e) s = ap Err (number-one d e s.0)

pub counted-one : (x y : Result ℕ Refusal) → Same (counted x) (counted y) → x ≡ y
counted-one = answered-one (λ n. n ∷ []) (λ a b e. cc)

pub spanned-one : (x y : Result Span Refusal) → Same (spanned x) (spanned y) → x ≡ y
spanned-one = answered-one (λ s. s.first ∷ s.count ∷ []) (λ a b e. let f : a.first ≡ b.first = cc in let g : a.count ≡ b.count = cc in ap (λ (n : ℕ). record { first = n; count = a.count }) f ∙ ap (λ (n : ℕ). record { first = b.first; count = n }) g)

pub refused-one : (x y : Result (Unit {0}) Refusal) → refused x ≡ refused y → x ≡ y
refused-one (Ok a) (Ok b) q = refl
refused-one (Ok a) (Err e) q = absurd (let h = some_number e in omega arith)
refused-one (Err d) (Ok b) q = absurd (let h = some_number d in omega arith)
refused-one (Err d) (Err e) q = ap Err (number-one d e q)

-- a call that has nothing to say, and isn't refused, is done
pub accepted_ok : (r : Result (Unit {0}) Refusal) → refused r ≡ 0 → r ≡ Ok tt
accepted_ok (Ok a) q = refl
accepted_ok (Err e) q = absurd (let h = some_number e in omega arith)
