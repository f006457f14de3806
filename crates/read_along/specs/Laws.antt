-- What is said of words together, and of a timing file.
use Rattle.std.specs.Prelude.{◌≡◌, List, ℕ, suc, ◌^◌, ◌≤◌, ◌<◌, length, get_or}
use Rattle.lists.specs.Sizes.{most_words}
use Rattle.read_along.specs.Words.{Span, span, Sounds}
use Rattle.read_along.specs.Format.{bytes_of_file}

-- span number i
abbrev pub at : List Span → ℕ → Span
at ss i = get_or ss i (span 0 0)

-- RULES, Read-along: words touch: the first begins at 0, each begins where the one before it ends, none ends before it begins
pub record Touch (ss : List Span) : Type 0 where
  pub from_0 : 0 < length ss → (at ss 0).first ≡ 0
  pub next : (i : ℕ) → suc i < length ss → (at ss (suc i)).first ≡ (at ss i).after
  pub forth : (i : ℕ) → i < length ss → (at ss i).first ≤ (at ss i).after

-- RULES, Read-along: and the last ends at the number of frames
pub record Cover (frames : ℕ) (ss : List Span) : Type 0 where
  pub touch : Touch ss
  pub to_end : (i : ℕ) → suc i ≡ length ss → (at ss i).after ≡ frames
  pub none : length ss ≡ 0 → frames ≡ 0

-- RULES, Read-along: a frame lies in exactly one word
pub record InOne (frame : ℕ) (ss : List Span) : Type 0 where
  pub word : ℕ
  pub there : word < length ss
  pub sounds : Sounds frame (at ss word)
  pub alone : (i : ℕ) → i < length ss → Sounds frame (at ss i) → i ≡ word

-- RULES, Read-along: the number of words has 32 bits, and each frame has
pub record Writable (ss : List Span) : Type 0 where
  pub few : length ss ≤ most_words
  pub each : (i : ℕ) → i < length ss → ((at ss i).first < 2 ^ 32) × ((at ss i).after < 2 ^ 32)

-- RULES, Read-along: these bytes are the timing file of these words, which touch
pub record TimingFile (bytes : List ℕ) (ss : List Span) : Type 0 where
  pub writable : Writable ss
  pub touch : Touch ss
  pub spelled : bytes ≡ bytes_of_file ss
