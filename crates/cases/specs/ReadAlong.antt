-- RULES, Read-along: worked words and timing files, computed. They stand here because `read_along` opens no definition of a crate below it.
use Rattle.std.specs.Prelude.{◌≡◌, refl, true, false, ℕ, set, take, replicate}
use mathlib.Core.List.{List, [], ◌∷◌, ◌++◌, map, flatten}
use Rattle.std.proofs.Common.{arith}
use Rattle.lists.specs.Totals.{total}
use Rattle.lists.specs.Build.{build}
use Rattle.lists.specs.Bytes.{little, bytes_of, alike, starts_with}
use Rattle.read_along.specs.Words.{Span, span, span_of, spans_of, in_milliseconds, Sounds, excerpt_start, excerpt_count}
use Rattle.read_along.specs.Format.{spans_in, touching, formed, bytes_of_spans, bytes_of_heading, bytes_of_file}
use Rattle.read_along.specs.Promise.{words_refusal, file_refusal, room_refusal, all_ends}

-- words of 1, 0 and 2 labels, two states a label
abbrev words : List ℕ
words = 1 ∷ 0 ∷ 2 ∷ []

abbrev durations : List ℕ
durations = 2 ∷ 3 ∷ 4 ∷ 0 ∷ 1 ∷ 5 ∷ []

-- RULES, Read-along: first frames 0, 5 and 5, frames after the last 5, 5 and 15; in milliseconds 0, 25, 25 and 25, 25, 75
pub worked : (all_ends (spans_of words 2 durations) ≡ 0 ∷ 5 ∷ 5 ∷ 5 ∷ 5 ∷ 15 ∷ []) × (all_ends (map in_milliseconds (spans_of words 2 durations)) ≡ 0 ∷ 25 ∷ 25 ∷ 25 ∷ 25 ∷ 75 ∷ [])
unfolding spans_of build total flatten
worked = (refl, refl)

-- RULES, Read-along: at frame 5 the third sounds, and no other
pub worked-at : Sounds 5 (span_of words 2 durations 2) × (Sounds 5 (span_of words 2 durations 0) → ⊥) × (Sounds 5 (span_of words 2 durations 1) → ⊥)
unfolding total
worked-at = (record { begun = omega arith; still = omega arith }, λ s. omega (arith, s.still), λ s. omega (arith, s.still))

-- the third word's excerpt, three numbers a frame: from frame 5 on, ten frames; that of the second is empty
pub worked_excerpt : (excerpt_start 3 (span_of words 2 durations 2) ≡ 15) × (excerpt_count 3 (span_of words 2 durations 2) ≡ 30) × (excerpt_count 3 (span_of words 2 durations 1) ≡ 0)
unfolding total
worked_excerpt = (refl, refl, refl)

-- RULES, Read-along: the crate below refuses, whichever number it gives; nstate 0 and 17; then labels that disagree, also where they agree in 32 bits alone
pub refused : (words_refusal 3 words 2 durations ≡ 5) × (words_refusal 1 (9 ∷ []) 2 durations ≡ 5) × (words_refusal 0 words 0 durations ≡ 5) × (words_refusal 0 (1 ∷ []) 17 durations ≡ 5) × (words_refusal 0 words 2 durations ≡ 0) × (words_refusal 0 words 3 durations ≡ 1) × (words_refusal 0 (2147483651 ∷ []) 2 durations ≡ 1) × (words_refusal 0 [] 1 [] ≡ 0)
unfolding words_refusal total
refused = (refl, refl, refl, refl, refl, refl, refl, refl)

-- the file of the worked words
abbrev spans : List Span
spans = span 0 5 ∷ span 5 5 ∷ span 5 15 ∷ []

abbrev bytes : List ℕ
bytes =
    82 ∷ 65 ∷ 76 ∷ 1 ∷ 0 ∷ 3 ∷ 0 ∷ 0 ∷ 0 ∷
    0 ∷ 0 ∷ 0 ∷ 0 ∷ 5 ∷ 0 ∷ 0 ∷ 0 ∷ 5 ∷ 0 ∷ 0 ∷ 0 ∷ 5 ∷ 0 ∷ 0 ∷ 0 ∷ 5 ∷ 0 ∷ 0 ∷ 0 ∷ 15 ∷ 0 ∷ 0 ∷ 0 ∷
    []

pub file : (bytes_of_file (spans_of words 2 durations) ≡ bytes) × (spans_in bytes ≡ spans) × (formed bytes ≡ true)
unfolding bytes_of_file bytes_of_heading bytes_of_spans spans_of build total flatten bytes_of spans_in little formed starts_with alike touching
file = (refl, refl, refl)

-- RULES, Read-along: a wrong mark, the versions 0 and 257, a byte too few and one too many, a word too many; no bytes, and the heading of no words
pub malformed : (formed (set bytes 2 77) ≡ false) × (formed (set bytes 3 0) ≡ false) × (formed (set bytes 4 1) ≡ false) × (formed (take 32 bytes) ≡ false) × (formed (bytes ++ (0 ∷ [])) ≡ false) × (formed (set bytes 5 4) ≡ false) × (formed [] ≡ false) × (formed (82 ∷ 65 ∷ 76 ∷ 1 ∷ 0 ∷ 0 ∷ 0 ∷ 0 ∷ 0 ∷ []) ≡ true)
unfolding spans_in build little formed starts_with alike touching
malformed = (refl, refl, refl, refl, refl, refl, refl, refl)

-- RULES, Read-along: a count of which no file has the length
pub endless : formed (82 ∷ 65 ∷ 76 ∷ 1 ∷ 0 ∷ 255 ∷ 255 ∷ 255 ∷ 255 ∷ []) ≡ false
unfolding little formed starts_with alike
endless = refl

-- RULES, Read-along: not from 0, a gap, a frame in two words, a word that ends before it begins; and frames of 32 bits
pub apart : (touching 0 (span 1 5 ∷ []) ≡ false) × (touching 0 (span 0 5 ∷ span 6 7 ∷ []) ≡ false) × (touching 0 (span 0 5 ∷ span 4 7 ∷ []) ≡ false) × (touching 0 (span 0 5 ∷ span 5 3 ∷ []) ≡ false) × (touching 0 (span 0 4294967295 ∷ []) ≡ true) × (touching 0 [] ≡ true)
unfolding touching
apart = (refl, refl, refl, refl, refl, refl)

-- RULES, Read-along: 3 before 4, and 4 by one number too few
pub order : (room_refusal (file_refusal (take 32 bytes)) (0 ∷ []) [] ≡ 3) × (room_refusal (file_refusal bytes) (all_ends spans) (replicate 5 7) ≡ 4) × (room_refusal (file_refusal bytes) (all_ends spans) (replicate 6 7) ≡ 0)
unfolding spans_in build little formed starts_with alike touching flatten
order = (refl, refl, refl)
