-- The timing file: what its bytes say, and the bytes of what is said.
use Rattle.std.specs.Prelude.{Bool, true, ◌&&◌, ℕ, ◌+◌, ◌*◌, leb, eqb, length, take, drop}
use mathlib.Core.List.{List, [], ◌∷◌, ◌++◌, map, flatten}
use Rattle.lists.specs.Build.{build}
use Rattle.lists.specs.Bytes.{little, bytes_of, starts_with}
use Rattle.read_along.specs.Words.{Span, span}

-- RULES, Read-along: first come the letters R, A and L
abbrev pub mark : List ℕ
mark = 82 ∷ 65 ∷ 76 ∷ []

-- RULES, Read-along: then the version in 16 bits, which is 1
abbrev pub version : ℕ
version = 1

abbrev pub version_of : List ℕ → ℕ
version_of bytes = little (take 2 (drop 3 bytes))

-- RULES, Read-along: then the number of words in 32 bits
abbrev pub number_at : List ℕ → ℕ → ℕ
number_at bytes at = little (take 4 (drop at bytes))

abbrev pub count_of : List ℕ → ℕ
count_of bytes = number_at bytes 5

-- RULES, Read-along: it is 9 + 8 × words bytes long
abbrev pub head_bytes : ℕ
head_bytes = 9

abbrev pub span_bytes : ℕ
span_bytes = 8

-- RULES, Read-along: then the spans, 32 bits a number
abbrev pub span_at : List ℕ → ℕ → Span
span_at bytes i = span (number_at bytes (head_bytes + span_bytes * i)) (number_at bytes (head_bytes + span_bytes * i + 4))

unfoldable pub spans_in : List ℕ → List Span
spans_in bytes = build (span_at bytes) (count_of bytes)

-- RULES, Read-along: each word begins where the one before it ends, the first of these at a frame that is given, and none ends before it begins
unfoldable pub touching : ℕ → List Span → Bool
touching at [] = true
touching at (s ∷ ss) = eqb s.first at && (leb at s.after && touching s.after ss)

-- RULES, Read-along: mark, version and length are right, and the words touch from 0 on
unfoldable pub formed : List ℕ → Bool
formed bytes = starts_with mark bytes && (eqb (version_of bytes) version && (eqb (length bytes) (head_bytes + span_bytes * count_of bytes) && touching 0 (spans_in bytes)))

-- ---- from the other side

-- RULES, Read-along: the bytes of a span
abbrev pub bytes_of_span : Span → List ℕ
bytes_of_span s = bytes_of 4 s.first ++ bytes_of 4 s.after

unfoldable pub bytes_of_spans : List Span → List ℕ
bytes_of_spans ss = flatten (map bytes_of_span ss)

-- RULES, Read-along: the mark, the version and the number of words
unfoldable pub bytes_of_heading : ℕ → List ℕ
bytes_of_heading count = mark ++ (bytes_of 2 version ++ bytes_of 4 count)

unfoldable pub bytes_of_file : List Span → List ℕ
bytes_of_file ss = bytes_of_heading (length ss) ++ bytes_of_spans ss
