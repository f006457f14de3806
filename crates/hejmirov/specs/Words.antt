-- What the C calls of words promise: a call below is made, by its own refusal numbers.
use Rattle.std.specs.Prelude.{◌≡◌, Result, List, ℕ, Float}
use Rattle.lists.specs.declared.Span.{Span}
use Rattle.read_along.specs.declared.WordsRefusal.{WordsRefusal}
use Rattle.read_along.specs.Promise.{counted_as, parted_as, SpansSays, MillisecondsSays, AtSays, PartOfSays, WriteSays, ReadSays}
use Rattle.hejmirov.specs.Promise.{HandsOne, HandsTwo}

-- `hejmirov_words_spans`
pub record WordsSpansCallSays (words : List ℕ) (nstate : ℕ) (durations spans : List ℕ) (r : ℕ) (spans' : List ℕ) : Type 0 where
  pub answer : Result ℕ WordsRefusal
  pub says : SpansSays words nstate durations spans answer spans'
  pub gives : r ≡ (counted_as answer).number

-- `hejmirov_words_milliseconds`
pub record WordsMillisecondsCallSays (words : List ℕ) (nstate : ℕ) (durations spans : List ℕ) (r : ℕ) (spans' : List ℕ) : Type 0 where
  pub answer : Result ℕ WordsRefusal
  pub says : MillisecondsSays words nstate durations spans answer spans'
  pub gives : r ≡ (counted_as answer).number

-- `hejmirov_words_at`
pub record WordsAtCallSays (words : List ℕ) (nstate : ℕ) (durations : List ℕ) (frame word r word' : ℕ) : Type 0 where
  pub answer : Result ℕ WordsRefusal
  pub says : AtSays words nstate durations frame answer
  pub gives : HandsOne (counted_as answer) word r word'

-- `hejmirov_words_excerpt`
pub record WordsExcerptCallSays (words : List ℕ) (nstate : ℕ) (durations : List ℕ) (trajectory : List Float) (v word first count r first' count' : ℕ) : Type 0 where
  pub answer : Result Span WordsRefusal
  pub says : PartOfSays words nstate durations trajectory v word answer
  pub gives : HandsTwo (parted_as answer) first count r first' count'

-- `hejmirov_words_write`
pub record WordsWriteCallSays (words : List ℕ) (nstate : ℕ) (durations out : List ℕ) (written r : ℕ) (out' : List ℕ) (written' : ℕ) : Type 0 where
  pub answer : Result ℕ WordsRefusal
  pub says : WriteSays words nstate durations out answer out'
  pub gives : HandsOne (counted_as answer) written r written'

-- `hejmirov_words_read`
pub record WordsReadCallSays (bytes spans : List ℕ) (words r : ℕ) (spans' : List ℕ) (words' : ℕ) : Type 0 where
  pub answer : Result ℕ WordsRefusal
  pub says : ReadSays bytes spans answer spans'
  pub gives : HandsOne (counted_as answer) words r words'
