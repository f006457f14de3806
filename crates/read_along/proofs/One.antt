-- Two outcomes that a promise allows are one.
use mathlib.Core.Path.{◌≡◌, refl, sym, ◌∙◌}
use mathlib.Core.List.{List, [], ◌∷◌}
use Prim.Native.Nat.{ℕ, zero, suc}
use denote.Ref.{Bor}
use lib.Ieee.{Float}
use Rattle.lists.specs.Answers.{Answer, answer_of}
use Rattle.lists.proofs.Answers.{Same, same}
use Rattle.std.proofs.Common.{Result}
use Rattle.lists.specs.declared.Span.{Span as Part}
use Rattle.read_along.specs.declared.WordsRefusal.{WordsRefusal}
use Rattle.read_along.specs.Promise.{counted_as, at_refusal, Writes, SpansSays, MillisecondsSays, WriteSays, ReadSays, AtSays, PartOfSays, ExcerptSays}
use Rattle.read_along.proofs.Ends.{counted-told, parted-told}
use Rattle.read_along.proofs.Covering.{sounds-one}

writes_one : (first value : ℕ) (answer out : List ℕ) (r s : Answer) (o₁ o₂ : List ℕ) → Writes first value answer out r o₁ → Writes first value answer out s o₂ → Same r s × (o₁ ≡ o₂)
writes_one first value answer out r s o₁ o₂ a b = (same (a.counts ∙ sym b.counts), a.output ∙ sym b.output)

module _ (words : List ℕ) (nstate : ℕ) (ds : List ℕ) where
  module _ (out : List ℕ) (r s : Result ℕ WordsRefusal) (o₁ o₂ : List ℕ) where
    pub spans-one : SpansSays words nstate ds out r o₁ → SpansSays words nstate ds out s o₂ → (r ≡ s) × (o₁ ≡ o₂)
    spans-one a b = let w = writes_one _ _ _ out (counted_as r) (counted_as s) o₁ o₂ a b in (counted-told r s w.0, w.1)

    pub milliseconds_one : MillisecondsSays words nstate ds out r o₁ → MillisecondsSays words nstate ds out s o₂ → (r ≡ s) × (o₁ ≡ o₂)
    milliseconds_one a b = let w = writes_one _ _ _ out (counted_as r) (counted_as s) o₁ o₂ a b in (counted-told r s w.0, w.1)

  pub write_one : (out : List ℕ) (r s : Result ℕ WordsRefusal) (o₁ o₂ : List ℕ) → WriteSays words nstate ds out r o₁ → WriteSays words nstate ds out s o₂ → (r ≡ s) × (o₁ ≡ o₂)
  write_one out r s o₁ o₂ a b = let w = writes_one _ _ _ out (counted_as r) (counted_as s) o₁ o₂ a b in (counted-told r s w.0, w.1)

  -- of two words that sound at a frame there is only one
  pub at_one : (frame : ℕ) (r s : Result ℕ WordsRefusal) → AtSays words nstate ds frame r → AtSays words nstate ds frame s → r ≡ s
  at_one frame r s a b =
      counted-told r s
      (same
      (a.answer
      ∙ (elim (at_refusal words nstate ds frame) as (λ k. at_refusal words nstate ds frame ≡ k → answer_of k (a.word ∷ []) ≡ answer_of k (b.word ∷ [])) [
        | zero ↦ λ z. let w : a.word ≡ b.word = sounds-one words nstate ds frame a.word b.word (a.sounds z).0 (b.sounds z).0 (a.sounds z).1 (b.sounds z).1 in rw w
        | suc k ↦ λ z. refl
      ])
      refl
      ∙ sym b.answer))

  pub part-one : (trajectory : List Float) (v word : ℕ) (r s : Result Part WordsRefusal) → PartOfSays words nstate ds trajectory v word r → PartOfSays words nstate ds trajectory v word s → r ≡ s
  part-one trajectory v word r s a b = parted-told r s (same (a ∙ sym b))

  -- the same numbers at the same place
  pub excerpt_one : (t : Bor (List Float)) (v word : ℕ) (r s : Bor (List Float)) → ExcerptSays words nstate ds t v word r → ExcerptSays words nstate ds t v word s → (r.now ≡ s.now) × (r.ref_ptr ≡ s.ref_ptr)
  excerpt_one t v word r s a b = (a.numbers ∙ sym b.numbers, a.itself ∙ sym b.itself)

pub read_one : (file out : List ℕ) (r s : Result ℕ WordsRefusal) (o₁ o₂ : List ℕ) → ReadSays file out r o₁ → ReadSays file out s o₂ → (r ≡ s) × (o₁ ≡ o₂)
read_one file out r s o₁ o₂ a b = let w = writes_one _ _ _ out (counted_as r) (counted_as s) o₁ o₂ a b in (counted-told r s w.0, w.1)
