-- Words, and the frames that each has.
use Rattle.std.specs.Prelude.{List, ℕ, ◌+◌, ◌-◌, ◌*◌, ◌≤◌, ◌<◌, length, take, get_or}
use Rattle.lists.specs.Totals.{total}
use Rattle.lists.specs.Parts.{part}
use Rattle.lists.specs.Build.{build}

-- a word's first frame, and the frame after its last
pub record Span : Type 0 where
  pub first : ℕ
  pub after : ℕ

abbrev pub span : ℕ → ℕ → Span
span first after = record { first = first; after = after }

-- RULES, Read-along: the states of a word come behind those of the words before it
abbrev pub states_before : List ℕ → ℕ → ℕ → ℕ
states_before words nstate i = total (take i words) * nstate

-- RULES, Read-along: nstate for each of its labels
abbrev pub states_of : List ℕ → ℕ → ℕ → ℕ
states_of words nstate i = get_or words i 0 * nstate

-- RULES, Read-along: its first frame is how many frames the states of the words before it have
abbrev pub first_frame : List ℕ → ℕ → List ℕ → ℕ → ℕ
first_frame words nstate durations i = total (take (states_before words nstate i) durations)

-- RULES, Read-along: the frames of its own states
abbrev pub own_frames : List ℕ → ℕ → List ℕ → ℕ → ℕ
own_frames words nstate durations i = total (part (states_before words nstate i) (states_of words nstate i) durations)

-- RULES, Read-along: the frame after its last is its first frame and the frames of its own states
abbrev pub span_of : List ℕ → ℕ → List ℕ → ℕ → Span
span_of words nstate durations i = span (first_frame words nstate durations i) (first_frame words nstate durations i + own_frames words nstate durations i)

-- RULES, Read-along: those of all words, in order
unfoldable pub spans_of : List ℕ → ℕ → List ℕ → List Span
spans_of words nstate durations = build (span_of words nstate durations) (length words)

-- RULES, Read-along: both times 5 in milliseconds
abbrev pub times : ℕ → Span → Span
times k s = span (k * s.first) (k * s.after)

abbrev pub in_milliseconds : Span → Span
in_milliseconds = times 5

-- RULES, Read-along: a word sounds at a frame that has reached its first frame and has not reached the frame after its last
pub record Sounds (frame : ℕ) (s : Span) : Type 0 where
  pub begun : s.first ≤ frame
  pub still : frame < s.after

-- RULES, Read-along: its excerpt begins at number first frame × v
abbrev pub excerpt_start : ℕ → Span → ℕ
excerpt_start v s = s.first * v

-- RULES, Read-along: and has v numbers for each of its frames
abbrev pub excerpt_count : ℕ → Span → ℕ
excerpt_count v s = (s.after - s.first) * v
