-- The ways out of the calls.
use mathlib.Core.Path.{◌≡◌, sym, ap, ◌∙◌}
use mathlib.Core.List.{List, [], ◌∷◌}
use Prim.Native.Nat.{ℕ, ◌+◌, ◌-◌, ◌*◌}
use native.Mathlib.Nat.{add_comm, add-sub_cancel_left}
use native.Mathlib.Omega.{arith}
use denote.Ref.{Bor}
use lib.Ieee.{Float}
use lib.ListN.{length, take, drop, get_or}
use Rattle.lists.specs.Totals.{total}
use Rattle.lists.specs.Answers.{given}
use Rattle.lists.proofs.Answers.{given-none, refused_is}
use Rattle.spool.specs.Place.{number_of}
use Rattle.spool.specs.Excerpt.{excerpt_start, excerpt_count, excerpt_of}
use Rattle.spool.specs.Refusal.{trajectory_refusal, excerpt_refusal}
use Rattle.spool.specs.Refusal.Laws.{excerpt_first}
use Rattle.spool.specs.Promise.{SpanSays, ExcerptSays}
use Rattle.lists.specs.declared.Refusal.{Refusal}
use Rattle.lists.specs.declared.Span.{Span}
use Rattle.lists.specs.Refusals.{number_of as refusal_number}
use Rattle.lists.specs.Ends.{spanned}
use Rattle.lists.proofs.Ends.{some_number, refuses}
use Rattle.std.proofs.Common.{Result, Ok, Err}
use Rattle.spool.proofs.Spans.{span_none, span-first, span-part}

-- a trajectory that is refused with its durations
pub span-refuses : (trajectory : List Float) (ds : List ℕ) (v state : ℕ) (e : Refusal) → refusal_number e ≡ trajectory_refusal (length trajectory) ds v → SpanSays trajectory ds v state (Err e)
span-refuses trajectory ds v state e q =
    refuses e _ _ (q ∙ sym (excerpt_first (length trajectory) ds v state (λ z. let h = some_number e in omega arith)))

-- a state's first number and its count, from the frames summed before it
pub span-values : (ds : List ℕ) (v state at first width start count : ℕ)
    → at ≡ state → first ≡ total (take at ds) → width ≡ v → start ≡ number_of first 0 width → count ≡ get_or ds at 0 * width
    → start ∷ count ∷ [] ≡ excerpt_start ds v state ∷ excerpt_count ds v state ∷ []
span-values ds v state at first width start count s f w p q = rw (p, q, f, w, s)

-- the part that `excerpt` cuts out, from what `excerpt_span` answers
module _ (t : Bor (List Float)) (ds : List ℕ) (v state : ℕ) (r : Result Span Refusal) (says : SpanSays t.now ds v state r) where
  pub part_says : (s : Span) → r ≡ Ok s
      → (q : Bor (List Float)) → q.now ≡ take (s.first + s.count - s.first) (drop s.first t.now) → q.ref_ptr ≡ (t.ref_ptr.0, s.first * 8 + t.ref_ptr.1) → ExcerptSays t ds v state q
  part_says s e q n p =
      let z = span_none t.now ds v state r says s e in
      record {
        numbers = n ∙ rw (add-sub_cancel_left s.first s.count, z) (sym (span-part t.now ds v state r says s e));
        itself = p ∙ rw (z, add_comm (s.first * 8) t.ref_ptr.1, span-first t.now ds v state r says s e);
      }

  -- and the empty one
  module _ (k : Refusal) (e : r ≡ Err k) where
    none : {A : Type 0} (y z : A) → given (excerpt_refusal (length t.now) ds v state) y z ≡ z
    none y z = given-none _ y z (refused_is (refusal_number k) _ _ _ (sym (ap spanned e) ∙ says)).1

    pub empty-says : (q : Bor (List Float)) → q.now ≡ [] → q.ref_ptr ≡ t.ref_ptr → ExcerptSays t ds v state q
    empty-says q n p =
        let z : t.ref_ptr.1 ≡ t.ref_ptr.1 + 0 * 8 = omega arith in
        record {
          numbers = n ∙ sym (none (excerpt_of t.now ds v state) []);
          itself = p ∙ ap (λ (o : ℕ). (t.ref_ptr.0, o)) (z ∙ ap (λ (o : ℕ). t.ref_ptr.1 + o * 8) (sym (none (excerpt_start ds v state) 0)));
        }
