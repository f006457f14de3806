-- Words touch and cover every frame once.
use mathlib.Core.Path.{◌≡◌, sym, ap, ◌∙◌}
use mathlib.Core.Logic.{⊎_elim}
use mathlib.Core.List.{List, []}
use Prim.Native.Nat.{ℕ, zero, suc, ◌+◌, ◌-◌, ◌*◌, ◌≤◌, ◌<◌}
use native.Mathlib.Nat.{zero-mul, mul-le-mul_right}
use native.Mathlib.Numerals.{add-one}
use native.Mathlib.Omega.{arith}
use lib.ListN.{length, take, drop, get_or}
use Rattle.lists.specs.Totals.{total}
use Rattle.lists.proofs.Numbers.{le_or_lt}
use Rattle.lists.proofs.Sums.{total-part, total-none}
use Rattle.lists.proofs.Builds.{build-at}
use Rattle.read_along.specs.Words.{Span, span, states_before, first_frame, own_frames, span_of, spans_of, Sounds}
use Rattle.read_along.specs.Promise.{timing_refusal}
use Rattle.read_along.specs.Laws.{at, Touch, Cover, InOne}
use Rattle.read_along.proofs.Frames.{first-none, first_next, first-end}
use Rattle.read_along.proofs.Lengths.{spans-count}
use Rattle.read_along.proofs.Refusing.{timed}

-- a longer front has no smaller total
front-grows : (xs : List ℕ) (a b : ℕ) → a ≤ b → total (take a xs) ≤ total (take b xs)
front-grows xs a b h =
    let e : a + (b - a) ≡ b = omega arith in
    omega (arith, total-part xs a (b - a), ap (λ (n : ℕ). total (take n xs)) e)

module _ (words : List ℕ) (nstate : ℕ) (ds : List ℕ) where
  -- a later word begins no earlier
  first-grows : (i j : ℕ) → i ≤ j → first_frame words nstate ds i ≤ first_frame words nstate ds j
  first-grows i j h = front-grows ds (states_before words nstate i) (states_before words nstate j) (mul-le-mul_right nstate (front-grows words i j h))

  -- ---- the spans by their numbers

  count : length (spans_of words nstate ds) ≡ length words
  count = spans-count words nstate ds

  pub span-at : (i : ℕ) → i < length words → at (spans_of words nstate ds) i ≡ span_of words nstate ds i
  unfolding spans_of
  span-at i h = build-at (span_of words nstate ds) (length words) i (span 0 0) h

  -- ---- one after the other

  pub words-touch : Touch (spans_of words nstate ds)
  words-touch = record {
    from_0 = λ h. ap (λ (s : Span). s.first) (span-at 0 (omega (arith, count))) ∙ first-none words nstate ds;
    next = λ i h.
        let l : suc i < length words = omega (arith, count) in
        let n : i < length words = omega arith in
        ap (λ (s : Span). s.first) (span-at (suc i) l) ∙ rw add-one at (first_next words nstate ds i n) ∙ sym (ap (λ (s : Span). s.after) (span-at i n));
    forth = λ i h. let l : i < length words = omega (arith, count) in rw (span-at i l) (omega arith);
  }

  pub words-cover : timing_refusal words nstate ds ≡ 0 → Cover (total ds) (spans_of words nstate ds)
  words-cover e =
      let t = timed words nstate ds e in
      record {
        touch = words-touch;
        to_end = λ i h.
            let l : i < length words = omega (arith, count) in
            let z : i + 1 ≡ length words = omega (arith, count) in
            ap (λ (s : Span). s.after) (span-at i l) ∙ sym (first_next words nstate ds i l) ∙ ap (first_frame words nstate ds) z ∙ first-end words nstate ds t;
        none = λ h. let z : 0 ≡ length words = omega (arith, count) in sym (first-end words nstate ds t) ∙ ap (first_frame words nstate ds) (sym z) ∙ first-none words nstate ds;
      }

  -- ---- every frame in one word

  module _ (frame : ℕ) where
    -- of two words in which a frame lies neither is earlier
    not_earlier : (i j : ℕ) → i < length words → Sounds frame (span_of words nstate ds i) → Sounds frame (span_of words nstate ds j) → j ≤ i
    not_earlier i j h a b = ⊎_elim
        (λ (g : j ≤ i). g)
        (λ (g : i < j). absurd (omega (arith, a.still, b.begun, first_next words nstate ds i h, first-grows (i + 1) j (omega arith))))
        (le_or_lt j i)

    pub sounds-one : (i j : ℕ) → i < length words → j < length words → Sounds frame (span_of words nstate ds i) → Sounds frame (span_of words nstate ds j) → i ≡ j
    sounds-one i j h g a b = omega (arith, not_earlier i j h a b, not_earlier j i g b a)

    -- a frame before word n lies in a word before it
    before : (n : ℕ) → n ≤ length words → frame < first_frame words nstate ds n → (word : ℕ) × (word < n) × Sounds frame (span_of words nstate ds word)
    before zero h l = absurd (omega (arith, first-none words nstate ds))
    before (suc n) h l = ⊎_elim
        (λ (g : first_frame words nstate ds n ≤ frame). (n, omega arith, record { begun = g; still = omega (arith, rw add-one at (first_next words nstate ds n h)) }))
        (λ (g : frame < first_frame words nstate ds n). let w = before n (omega arith) g in (w.0, omega (arith, w.1), w.2))
        (le_or_lt (first_frame words nstate ds n) frame)

    pub frame_in_one : timing_refusal words nstate ds ≡ 0 → frame < total ds → InOne frame (spans_of words nstate ds)
    frame_in_one e l =
        let t = timed words nstate ds e in
        let w = before (length words) (omega arith) (omega (arith, first-end words nstate ds t)) in
        record {
          word = w.0;
          there = omega (arith, w.1, count);
          sounds = rw (span-at w.0 w.1) w.2;
          alone = λ i h s. let g : i < length words = omega (arith, count) in sounds-one i w.0 g w.1 (rw (span-at i g) at s) w.2;
        }

  -- ---- words of no frames

  module _ (i : ℕ) where
    -- a word of no labels has no frames
    pub no_labels : get_or words i 0 ≡ 0 → own_frames words nstate ds i ≡ 0
    no_labels e =
        let z : get_or words i 0 * nstate ≡ 0 = ap (λ (n : ℕ). n * nstate) e ∙ zero-mul nstate in
        ap (λ (n : ℕ). total (take n (drop (states_before words nstate i) ds))) z ∙ total-none [] 0 (omega arith)

    -- equal ends are no frames
    pub equal_ends : (own_frames words nstate ds i ≡ 0 → (span_of words nstate ds i).first ≡ (span_of words nstate ds i).after) × ((span_of words nstate ds i).first ≡ (span_of words nstate ds i).after → own_frames words nstate ds i ≡ 0)
    equal_ends = (λ e. omega arith, λ e. omega arith)

    -- and such a word never sounds
    pub silent : (frame : ℕ) → own_frames words nstate ds i ≡ 0 → Sounds frame (span_of words nstate ds i) → ⊥
    silent frame e s = omega (arith, s.begun, s.still)
