-- What a pass over words knows, and finds.
use Rattle.std.specs.Prelude.{◌≡◌, Option, Some, None, List, ℕ, ◌*◌, ◌≤◌, ◌<◌, length}
use Rattle.lists.specs.Sizes.{most_states, most_label_states, most_frames, most_words}
use Rattle.lists.specs.Totals.{total}
use Rattle.read_along.specs.declared.Start.{Start}
use Rattle.read_along.specs.Words.{states_before, first_frame, span_of, Sounds}

-- where a word begins: behind so many states and frames
abbrev pub word_start : List ℕ → ℕ → List ℕ → ℕ → Start
word_start words nstate durations i = record { state = states_before words nstate i; frame = first_frame words nstate durations i }

-- what is known of words that are not refused
pub record Timed (words : List ℕ) (nstate : ℕ) (durations : List ℕ) : Type 0 where
  pub few : length words ≤ most_words
  pub narrow : nstate ≤ most_label_states
  pub agree : total words * nstate ≡ length durations
  pub states : length durations ≤ most_states
  pub short : total durations ≤ most_frames

-- a word that sounds at a frame, or none where the frame is past the end
abbrev pub FoundAt : List ℕ → ℕ → List ℕ → ℕ → Option ℕ → Type 0
FoundAt words nstate durations frame (Some r) = (r < length words) × Sounds frame (span_of words nstate durations r)
FoundAt words nstate durations frame None = total durations ≤ frame
