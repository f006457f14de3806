-- What the crate's own functions give each other. No public call's promise names any of it.
use Rattle.std.specs.Prelude.{◌≡◌, Option, None, Some, Result, cond, List, [], ℕ, ◌+◌, ◌<◌, ltb, length}
use Rattle.std.proofs.lemmas.List.Edits.{sets}
use Rattle.lists.specs.Sizes.{most_voices}
use Rattle.lists.specs.Answers.{written}
use Rattle.lists.specs.Ends.{refused}
use Rattle.lists.specs.declared.Refusal.{Refusal}
use Rattle.settings.specs.Store.{Store, holds_at, entry_in}
use Rattle.settings.specs.Format.{entries_of, settled, read_in, bytes_of_entry}

-- a number of why the records of a file are not all set: 17, or 0 where they are
abbrev pub full_refusal : List ℕ → ℕ
full_refusal bytes = cond (ltb most_voices (length (settled (entries_of bytes)))) 17 0

-- whether there was a place for each record of a file, and then the store that the records make
pub record Gathered (bytes : List ℕ) (r : Result (Unit {0}) Refusal) (voices settings : List ℕ) : Type 0 where
  pub fits : refused r ≡ full_refusal bytes
  pub numbers : full_refusal bytes ≡ 0 → voices ≡ (read_in bytes).voices
  pub kept : full_refusal bytes ≡ 0 → settings ≡ (read_in bytes).settings

-- whether the records of a file are all set, and what both lists hold then: the new store, or what they held
pub record Replaced (voices settings bytes : List ℕ) (r : Result (Unit {0}) Refusal) (voices' settings' : List ℕ) : Type 0 where
  pub fits : refused r ≡ full_refusal bytes
  pub numbers : voices' ≡ written (full_refusal bytes) (read_in bytes).voices voices
  pub kept : settings' ≡ written (full_refusal bytes) (read_in bytes).settings settings

-- the bytes of the record of a place: none where it is free
abbrev pub bytes_at : Store → ℕ → List ℕ
bytes_at s i = cond (holds_at s.voices i) (bytes_of_entry 2 (entry_in s i)) []

-- they are written from a place of the output on, and the next come behind them
pub record PlaceWritten (s : Store) (i : ℕ) (out : List ℕ) (at next : ℕ) (out' : List ℕ) : Type 0 where
  pub behind : next ≡ at + length (bytes_at s i)
  pub output : out' ≡ sets out at (bytes_at s i)

-- a place that is looked for: the first of them, if the list has it
abbrev pub PlaceGiven : Option ℕ → ℕ → List ℕ → Type 0
PlaceGiven None first voices = first ≡ length voices
PlaceGiven (Some p) first voices = (p ≡ first) × (p < length voices)
