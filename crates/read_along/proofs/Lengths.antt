-- How long words' spans are, as numbers and as bytes, and how long a timing file is.
use mathlib.Core.Path.{◌≡◌, refl, ap, ◌∙◌}
use mathlib.Core.List.{List, ◌++◌, map, flatten}
use Prim.Native.Nat.{ℕ, ◌+◌, ◌*◌}
use native.Mathlib.Nat.{mul_comm}
use native.Mathlib.Omega.{arith}
use lib.ListN.{length, get_or, length-append, length-map}
use Rattle.lists.specs.Bytes.{bytes_of}
use Rattle.lists.proofs.Bytes.{bytes-length}
use Rattle.lists.proofs.Fills.{build-length}
use Rattle.lists.proofs.Joins.{rows-length, flatten_rows}
use Rattle.read_along.specs.Words.{Span, span, span_of, spans_of, times}
use Rattle.read_along.specs.Format.{mark, version, head_bytes, span_bytes, bytes_of_span, bytes_of_spans, bytes_of_heading, bytes_of_file}
use Rattle.read_along.specs.Promise.{both_ends, all_ends}

-- as many items a word as each word has
pub all-long : {A : Type 0} (row : Span → List A) (w : ℕ) → ((s : Span) → length (row s) ≡ w) → (ss : List Span) → length (flatten (map row ss)) ≡ w * length ss
all-long row w each ss = ap length (flatten_rows row (span 0 0) ss) ∙ rows-length (λ i. row (get_or ss i (span 0 0))) w (length ss) (λ t h. each (get_or ss t (span 0 0))) ∙ mul_comm (length ss) w

-- ---- numbers

pub spans-count : (words : List ℕ) (nstate : ℕ) (ds : List ℕ) → length (spans_of words nstate ds) ≡ length words
unfolding spans_of
spans-count words nstate ds = build-length (span_of words nstate ds) (length words)

pub ends-long : (ss : List Span) → length (all_ends ss) ≡ 2 * length ss
ends-long ss = all-long both_ends 2 (λ s. refl) ss

pub scaled-long : (scale : ℕ) (words : List ℕ) (nstate : ℕ) (ds : List ℕ) → length (all_ends (map (times scale) (spans_of words nstate ds))) ≡ 2 * length words
scaled-long scale words nstate ds = ends-long (map (times scale) (spans_of words nstate ds)) ∙ ap (λ (n : ℕ). 2 * n) (length-map (spans_of words nstate ds) (times scale) ∙ spans-count words nstate ds)

-- ---- bytes

pub span-long : (s : Span) → length (bytes_of_span s) ≡ span_bytes
span-long s = length-append (bytes_of 4 s.first) (bytes_of 4 s.after) ∙ omega (arith, bytes-length 4 s.first, bytes-length 4 s.after)

pub heading-long : (count : ℕ) → length (bytes_of_heading count) ≡ head_bytes
unfolding bytes_of_heading
heading-long count =
    length-append mark (bytes_of 2 version ++ bytes_of 4 count)
    ∙ omega (arith, length-append (bytes_of 2 version) (bytes_of 4 count), bytes-length 2 version, bytes-length 4 count)

pub file-long : (ss : List Span) → length (bytes_of_file ss) ≡ head_bytes + span_bytes * length ss
unfolding bytes_of_file bytes_of_spans
file-long ss = length-append (bytes_of_heading (length ss)) (bytes_of_spans ss) ∙ omega (arith, heading-long (length ss), all-long bytes_of_span span_bytes span-long ss)
