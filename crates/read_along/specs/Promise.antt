-- What the calls refuse, and what they promise.
use Rattle.std.specs.Prelude.{◌≡◌, Result, Ok, Err, Bool, cond, ◌&&◌, ◌||◌, ℕ, ◌*◌, ◌<◌, ltb, leb, eqb, Float, length}
use mathlib.Core.List.{List, [], ◌∷◌, map, flatten}
use Rattle.std.specs.Borrow.{Bor}
use Rattle.lists.specs.Sizes.{most_label_states, most_words}
use Rattle.lists.specs.Totals.{total}
use Rattle.lists.specs.Flags.{is_on}
use Rattle.lists.specs.Refusals.{or_else}
use Rattle.lists.specs.Answers.{Answer, accepting, refusing, given, answer_of, written}
use Rattle.lists.specs.Parts.{PartSays}
use Rattle.spool.specs.Refusal.{durations_refusal, trajectory_refusal}
use Rattle.lists.specs.declared.Span.{Span as Part}
use Rattle.read_along.specs.declared.WordsRefusal.{WordsRefusal}
use Rattle.read_along.specs.declared.WordsRefusal.TheVariants.{WordsDisagree, NoSuchWord, Malformed, TooLittleRoom, BadTiming}
use Rattle.read_along.specs.Words.{Span, span_of, spans_of, in_milliseconds, Sounds, excerpt_start, excerpt_count}
use Rattle.read_along.specs.Format.{spans_in, formed, bytes_of_file}

-- ---- refusals

-- RULES, Read-along: each refusal's number
abbrev pub number_of : WordsRefusal → ℕ
number_of WordsDisagree = 1
number_of NoSuchWord = 2
number_of Malformed = 3
number_of TooLittleRoom = 4
number_of BadTiming = 5

-- RULES, Forms: number and values of an answer, which has these values where nothing is refused
abbrev pub answered_as : {A : Type 0} → (A → List ℕ) → Result A WordsRefusal → Answer
answered_as values (Ok a) = accepting (values a)
answered_as values (Err e) = refusing (number_of e)

-- of one that has a count
abbrev pub counted_as : Result ℕ WordsRefusal → Answer
counted_as = answered_as (λ n. n ∷ [])

-- of one that has a part
abbrev pub parted_as : Result Part WordsRefusal → Answer
parted_as = answered_as (λ p. p.first ∷ p.count ∷ [])

-- and the number alone of one that has no value
abbrev pub refused_as : Result (Unit {0}) WordsRefusal → ℕ
refused_as (Ok done) = 0
refused_as (Err e) = number_of e

-- RULES, Sizes: a label has 1 to 16 states; nstate is out of that range
abbrev pub label_outside : ℕ → Bool
label_outside nstate = ltb nstate 1 || ltb most_label_states nstate

-- RULES, Read-along: there are as many durations as labels × nstate, and not too many words
abbrev pub agreeing : List ℕ → ℕ → List ℕ → Bool
agreeing words nstate durations = leb (length words) most_words && eqb (total words * nstate) (length durations)

-- RULES, Read-along: 5 for nstate out of range, and where the crate below refuses, whichever of its numbers it gives; then 1
unfoldable pub words_refusal : ℕ → List ℕ → ℕ → List ℕ → ℕ
words_refusal below words nstate durations = or_else (cond (label_outside nstate || is_on below) 5 0) (cond (agreeing words nstate durations) 0 1)

-- where only durations are given
abbrev pub timing_refusal : List ℕ → ℕ → List ℕ → ℕ
timing_refusal words nstate durations = words_refusal (durations_refusal durations) words nstate durations

-- RULES, Read-along: then 2 for a frame that is not there
abbrev pub at_refusal : List ℕ → ℕ → List ℕ → ℕ → ℕ
at_refusal words nstate durations frame = or_else (timing_refusal words nstate durations) (cond (ltb frame (total durations)) 0 2)

-- RULES, Read-along: with a trajectory of so many numbers, then 2 for a word that is not there
abbrev pub excerpt_refusal : List ℕ → ℕ → List ℕ → ℕ → ℕ → ℕ → ℕ
excerpt_refusal words nstate durations numbers v word =
    or_else (words_refusal (trajectory_refusal numbers durations v) words nstate durations) (cond (ltb word (length words)) 0 2)

-- RULES, Read-along: 3 for a malformed file
abbrev pub file_refusal : List ℕ → ℕ
file_refusal bytes = cond (formed bytes) 0 3

-- RULES, Read-along: and last 4, for an output that is shorter than the answer
abbrev pub room_refusal : ℕ → List ℕ → List ℕ → ℕ
room_refusal first answer out = or_else first (cond (ltb (length out) (length answer)) 4 0)

-- ---- promises

-- a call that writes: a refusal, 4 the last of them, or a count and the answer in front of what was there
pub record Writes (first value : ℕ) (answer out : List ℕ) (r : Answer) (out' : List ℕ) : Type 0 where
  pub counts : r ≡ answer_of (room_refusal first answer out) (value ∷ [])
  pub output : out' ≡ written (room_refusal first answer out) answer out

-- RULES, Read-along: the spans of words are two numbers a word, word after word
abbrev pub both_ends : Span → List ℕ
both_ends s = s.first ∷ s.after ∷ []

abbrev pub all_ends : List Span → List ℕ
all_ends ss = flatten (map both_ends ss)

-- RULES, Read-along: what `spans` answers, the number of words, and writes
abbrev pub SpansSays : List ℕ → ℕ → List ℕ → List ℕ → Result ℕ WordsRefusal → List ℕ → Type 0
SpansSays words nstate durations out r = Writes (timing_refusal words nstate durations) (length words) (all_ends (spans_of words nstate durations)) out (counted_as r)

-- RULES, Read-along: the same in milliseconds
abbrev pub MillisecondsSays : List ℕ → ℕ → List ℕ → List ℕ → Result ℕ WordsRefusal → List ℕ → Type 0
MillisecondsSays words nstate durations out r = Writes (timing_refusal words nstate durations) (length words) (all_ends (map in_milliseconds (spans_of words nstate durations))) out (counted_as r)

-- RULES, Read-along: what `write` answers, the number of bytes, and writes
abbrev pub WriteSays : List ℕ → ℕ → List ℕ → List ℕ → Result ℕ WordsRefusal → List ℕ → Type 0
WriteSays words nstate durations out r =
    let file = bytes_of_file (spans_of words nstate durations) in
    Writes (timing_refusal words nstate durations) (length file) file out (counted_as r)

-- RULES, Read-along: what `read` answers, the number of words, and writes
abbrev pub ReadSays : List ℕ → List ℕ → Result ℕ WordsRefusal → List ℕ → Type 0
ReadSays bytes out r = Writes (file_refusal bytes) (length (spans_in bytes)) (all_ends (spans_in bytes)) out (counted_as r)

-- RULES, Read-along: what `at` answers: a word that sounds at the frame
pub record AtSays (words : List ℕ) (nstate : ℕ) (durations : List ℕ) (frame : ℕ) (r : Result ℕ WordsRefusal) : Type 0 where
  pub word : ℕ
  pub answer : counted_as r ≡ answer_of (at_refusal words nstate durations frame) (word ∷ [])
  pub sounds : at_refusal words nstate durations frame ≡ 0 → (word < length words) × Sounds frame (span_of words nstate durations word)

-- RULES, Read-along: what `excerpt_part` answers, the excerpt's first number and how many there are
abbrev pub PartOfSays : List ℕ → ℕ → List ℕ → List Float → ℕ → ℕ → Result Part WordsRefusal → Type 0
PartOfSays words nstate durations trajectory v word r =
    let s = span_of words nstate durations word in
    parted_as r ≡ answer_of (excerpt_refusal words nstate durations (length trajectory) v word) (excerpt_start v s ∷ excerpt_count v s ∷ [])

-- RULES, Read-along: what `excerpt` hands back: that part of the trajectory itself, in its own memory at 8 bytes a number; the empty one on a refusal
abbrev pub ExcerptSays : List ℕ → ℕ → List ℕ → Bor (List Float) → ℕ → ℕ → Bor (List Float) → Type 0
ExcerptSays words nstate durations trajectory v word =
    let s = span_of words nstate durations word in
    let k = excerpt_refusal words nstate durations (length trajectory.now) v word in
    PartSays 8 trajectory (given k (excerpt_start v s) 0) (given k (excerpt_count v s) 0)
