-- What the calls promise.
use Rattle.std.specs.Prelude.{◌≡◌, Result, List, [], ◌∷◌, ℕ, ◌+◌, ◌*◌, Float, length}
use Rattle.std.specs.Borrow.{Bor}
use Rattle.lists.specs.Answers.{given, answer_of}
use Rattle.spool.specs.Place.{place_of}
use Rattle.spool.specs.Excerpt.{excerpt_start, excerpt_count, excerpt_of}
use Rattle.spool.specs.Refusal.{place_refusal, excerpt_refusal}
use Rattle.lists.specs.Ends.{counted, spanned}
use Rattle.lists.specs.declared.Refusal.{Refusal}
use Rattle.lists.specs.declared.Span.{Span}

-- RULES, Places: what `place` answers
abbrev pub PlaceSays : ℕ → ℕ → ℕ → Result ℕ Refusal → Type 0
PlaceSays frame component v r = counted r ≡ answer_of (place_refusal component v) (place_of frame component v ∷ [])

-- RULES, Places: what `excerpt_span` answers, the excerpt's first number and how many there are
abbrev pub SpanSays : List Float → List ℕ → ℕ → ℕ → Result Span Refusal → Type 0
SpanSays trajectory durations v state r =
    spanned r ≡ answer_of (excerpt_refusal (length trajectory) durations v state) (excerpt_start durations v state ∷ excerpt_count durations v state ∷ [])

-- RULES, Places: an excerpt's numbers, and where they lie, in the trajectory's own memory at 8 bytes a number; the empty part on a refusal
pub record ExcerptSays (trajectory : Bor (List Float)) (durations : List ℕ) (v state : ℕ) (r : Bor (List Float)) : Type 0 where
  pub numbers : r.now ≡ given (excerpt_refusal (length trajectory.now) durations v state) (excerpt_of trajectory.now durations v state) []
  pub itself : r.ref_ptr ≡ (trajectory.ref_ptr.0, trajectory.ref_ptr.1 + given (excerpt_refusal (length trajectory.now) durations v state) (excerpt_start durations v state) 0 * 8)
