-- The passes over words: one that looks for a word, and one that writes spans.
use mathlib.Core.Path.{◌≡◌, refl, sym, ap, ◌∙◌}
use mathlib.Core.List.{List, [], ◌∷◌, map, flatten, map-map}
use Prim.Native.Nat.{ℕ, ◌+◌, ◌*◌, ◌≤◌, ◌<◌, zero-le}
use native.Mathlib.Omega.{arith}
use lib.ListN.{length}
use lib.Seq.{sets}
use Rattle.std.proofs.Common.{Some}
use Rattle.lists.specs.Sizes.{most_frames}
use Rattle.lists.specs.Build.{rows}
use Rattle.lists.proofs.Joins.{rows_none, rows-stored, flatten_build}
use Rattle.read_along.specs.declared.Start.{Start}
use Rattle.read_along.specs.Words.{Span, span, first_frame, span_of, spans_of, times}
use Rattle.read_along.specs.Promise.{both_ends, all_ends}
use Rattle.read_along.specs.Inner.Steps.{word_start, Timed, FoundAt}
use Rattle.read_along.proofs.Frames.{states-none, first-none, first_next, first-within}

-- ---- a pass has come to a word

module _ (words : List ℕ) (nstate : ℕ) (ds : List ℕ) where
  pub record Passing (here : Start) (i : ℕ) : Type 0 where
    pub within : i ≤ length words
    pub is : here ≡ word_start words nstate ds i

  passing : Passing (record { state = 0; frame = 0 }) 0
  passing = record { within = zero-le; is = rw (first-none words nstate ds, states-none words nstate ds) }

  module _ {here : Start} {i : ℕ} (p : Passing here i) where
    passing-frame : here.frame ≡ first_frame words nstate ds i
    passing-frame = ap (λ (s : Start). s.frame) p.is

    module _ (next : Start) (e : next ≡ word_start words nstate ds (i + 1)) where
      pub passing-next : i < length words → Passing next (i + 1)
      passing-next h = record { within = omega arith; is = e }

      next-frame : next.frame ≡ first_frame words nstate ds (i + 1)
      next-frame = ap (λ (s : Start). s.frame) e

      -- the word's span is from the one frame to the other
      passing-span : i < length words → span here.frame next.frame ≡ span_of words nstate ds i
      passing-span h = rw (passing-frame, next-frame, first_next words nstate ds i h)

      pub passing-small : Timed words nstate ds → (here.frame ≤ most_frames) × (next.frame ≤ most_frames)
      passing-small t = (omega (arith, passing-frame, first-within words nstate ds i, t.short), omega (arith, next-frame, first-within words nstate ds (i + 1), t.short))

  -- ---- it looks for a word

  module _ (frame : ℕ) where
    -- all words before have ended
    pub record Searching (here : Start) (i : ℕ) : Type 0 where
      pub pass : Passing here i
      pub ended : here.frame ≤ frame

    pub searching : Searching (record { state = 0; frame = 0 }) 0
    searching = record { pass = passing; ended = zero-le }

    module _ {here : Start} {i : ℕ} (k : Searching here i) where
      module _ (next : Start) (e : next ≡ word_start words nstate ds (i + 1)) (h : i < length words) where
        pub searching-found : frame < next.frame → FoundAt words nstate ds frame (Some i)
        searching-found g = (h, rw (← passing-span k.pass next e h) (record { begun = k.ended; still = g }))

  -- ---- it writes spans, each by w numbers, one behind the other

  module _ (put : Span → List ℕ) (w base : ℕ) (each : (s : Span) → length (put s) ≡ w) where
    abbrev row : ℕ → List ℕ
    row i = put (span_of words nstate ds i)

    -- those of the words before are written
    pub record Spanning (out₀ out : List ℕ) (here : Start) (i : ℕ) : Type 0 where
      pub pass : Passing here i
      pub so_far : out ≡ sets out₀ base (rows row i)

    pub spanning : (out₀ : List ℕ) → Spanning out₀ out₀ (record { state = 0; frame = 0 }) 0
    spanning out₀ = record { pass = passing; so_far = rw (rows_none row) }

    module _ {out₀ out : List ℕ} {here : Start} {i : ℕ} (k : Spanning out₀ out here i) where
      pub spanning-next : (next : Start) → next ≡ word_start words nstate ds (i + 1) → i < length words → (at : ℕ) (out' : List ℕ)
          → at ≡ base + w * i → out' ≡ sets out at (put (span here.frame next.frame))
          → Spanning out₀ out' next (i + 1)
      spanning-next next e h at out' a s = record {
        pass = passing-next k.pass next e h;
        so_far = rows-stored row w i base at out₀ out out' (λ t. each (span_of words nstate ds t)) k.so_far a (s ∙ ap (λ (x : Span). sets out at (put x)) (passing-span k.pass next e h));
      }

      pub spanning-done : length words ≤ i → out ≡ sets out₀ base (flatten (map put (spans_of words nstate ds)))
      unfolding spans_of
      spanning-done g =
          let z : i ≡ length words = omega (arith, k.pass.within) in
          k.so_far ∙ ap (λ (n : ℕ). sets out₀ base (rows row n)) z ∙ ap (sets out₀ base) (sym (flatten_build put (span_of words nstate ds) (length words)))

-- ---- two numbers a word, each times a scale

module _ (scale : ℕ) where
  abbrev pub scaled : Span → List ℕ
  scaled s = both_ends (times scale s)

  pub scaled-two : (s : Span) → length (scaled s) ≡ 2
  scaled-two s = refl

  pub scaled-done : (words : List ℕ) (nstate : ℕ) (ds : List ℕ) {out₀ out : List ℕ} {here : Start} {i : ℕ} → Spanning words nstate ds scaled 2 0 scaled-two out₀ out here i → length words ≤ i
      → out ≡ sets out₀ 0 (all_ends (map (times scale) (spans_of words nstate ds)))
  scaled-done words nstate ds {out₀} k g = spanning-done words nstate ds scaled 2 0 scaled-two k g ∙ ap (λ (l : List (List ℕ)). sets out₀ 0 (flatten l)) (sym (map-map both_ends (times scale) (spans_of words nstate ds)))

-- once each number is the number itself
pub times-one : (ss : List Span) → map (times 1) ss ≡ ss
times-one [] = refl
times-one (s ∷ ss) =
    let f : 1 * s.first ≡ s.first = omega arith in
    let a : 1 * s.after ≡ s.after = omega arith in
    rw (f, a, times-one ss)
