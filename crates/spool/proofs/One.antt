-- Two outcomes that a promise allows are one.
use mathlib.Core.Path.{◌≡◌, sym, ◌∙◌}
use mathlib.Core.List.{List}
use Prim.Native.Nat.{ℕ}
use denote.Ref.{Bor}
use lib.Ieee.{Float}
use Rattle.lists.proofs.Answers.{same}
use Rattle.spool.specs.Refusal.{excerpt_refusal}
use Rattle.spool.specs.Promise.{PlaceSays, SpanSays, ExcerptSays}
use Rattle.lists.specs.declared.Refusal.{Refusal}
use Rattle.lists.specs.declared.Span.{Span}
use Rattle.lists.proofs.Ends.{counted-one, spanned-one, refused-one}
use Rattle.lists.specs.Ends.{refused}
use Rattle.std.proofs.Common.{Result}

pub place-one : (frame component v : ℕ) (r s : Result ℕ Refusal) → PlaceSays frame component v r → PlaceSays frame component v s → r ≡ s
place-one frame component v r s a b = counted-one r s (same (a ∙ sym b))

pub span-one : (trajectory : List Float) (ds : List ℕ) (v state : ℕ) (r s : Result Span Refusal) → SpanSays trajectory ds v state r → SpanSays trajectory ds v state s → r ≡ s
span-one trajectory ds v state r s a b = spanned-one r s (same (a ∙ sym b))

pub excerpt_refusal-one : (numbers : ℕ) (ds : List ℕ) (v state : ℕ) (r s : Result (Unit {0}) Refusal) → refused r ≡ excerpt_refusal numbers ds v state → refused s ≡ excerpt_refusal numbers ds v state → r ≡ s
excerpt_refusal-one numbers ds v state r s a b = refused-one r s (a ∙ sym b)

-- the same numbers at the same place
pub excerpt_one : (trajectory : Bor (List Float)) (ds : List ℕ) (v state : ℕ) (r s : Bor (List Float))
    → ExcerptSays trajectory ds v state r → ExcerptSays trajectory ds v state s → (r.now ≡ s.now) × (r.ref_ptr ≡ s.ref_ptr)
excerpt_one trajectory ds v state r s a b = (a.numbers ∙ sym b.numbers, a.itself ∙ sym b.itself)
