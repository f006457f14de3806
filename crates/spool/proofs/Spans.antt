-- What an answer of `excerpt_span` tells of the excerpt.
use mathlib.Core.Path.{◌≡◌, refl, sym, ap, ◌∙◌}
use mathlib.Core.List.{List, [], ◌∷◌}
use Prim.Native.Nat.{ℕ, ◌+◌, ◌≤◌}
use native.Mathlib.Omega.{arith}
use lib.Ieee.{Float}
use lib.ListN.{length, take, drop}
use Rattle.lists.proofs.Answers.{same, accepted_is}
use Rattle.spool.specs.Excerpt.{excerpt_start, excerpt_count, excerpt_of}
use Rattle.spool.specs.Refusal.{excerpt_refusal}
use Rattle.std.proofs.Common.{Result, Ok, Err}
use Rattle.lists.specs.Refusals.{number_of}
use Rattle.lists.specs.Ends.{spanned}
use Rattle.lists.specs.declared.Refusal.{Refusal}
use Rattle.lists.specs.declared.Span.{Span}
use Rattle.spool.specs.Promise.{SpanSays}
use Rattle.spool.specs.Refusal.Laws.{excerpt_accepts}
use Rattle.spool.proofs.Excerpts.{excerpt_fits}

module _ (trajectory : List Float) (ds : List ℕ) (v state : ℕ) (r : Result Span Refusal) (says : SpanSays trajectory ds v state r) where
  pub span-refused : (k : Refusal) → r ≡ Err k → number_of k ≡ excerpt_refusal (length trajectory) ds v state
  span-refused k e = (same (sym (ap spanned e) ∙ says)).0

  module _ (s : Span) (e : r ≡ Ok s) where
    pub span_none : excerpt_refusal (length trajectory) ds v state ≡ 0
    span_none = (accepted_is (spanned (Ok s)) _ _ (sym (ap spanned e) ∙ says) refl).0

    span_is : s.first ∷ s.count ∷ [] ≡ excerpt_start ds v state ∷ excerpt_count ds v state ∷ []
    span_is = (accepted_is (spanned (Ok s)) _ _ (sym (ap spanned e) ∙ says) refl).1

    pub span-first : s.first ≡ excerpt_start ds v state
    span-first = cc span_is

    pub span-count : s.count ≡ excerpt_count ds v state
    span-count = cc span_is

    -- the numbers that it names are the excerpt
    pub span-part : excerpt_of trajectory ds v state ≡ take s.count (drop s.first trajectory)
    unfolding excerpt_of
    span-part = rw (span-first, span-count)

    -- and lie in the trajectory
    pub span_fits : s.first + s.count ≤ length trajectory
    span_fits =
        let a = excerpt_accepts (length trajectory) ds v state span_none in
        omega (arith, span-first, span-count, excerpt_fits (length trajectory) ds v state a.0 a.1)
