-- Worked stores and files, computed.
use Rattle.std.specs.Prelude.{◌≡◌, refl, true, false, ℕ, set, take, replicate, pos}
use mathlib.Core.List.{List, [], ◌∷◌, ◌++◌, flatten}
use Rattle.std.specs.Float.{binary64}
use Rattle.std.specs.Float.Ieee.{of_bits, of_int, div}
use Rattle.lists.specs.Refusals.{or_else}
use Rattle.lists.specs.Build.{build, fold_from, rows}
use Rattle.lists.specs.Frames.{select, count}
use Rattle.lists.specs.Bytes.{little, bytes_of, alike, starts_with}
use Rattle.lists.specs.Firsts.{first_at, replaced}
use Rattle.settings.specs.declared.Settings.{Settings}
use Rattle.settings.specs.Store.{store, free, holding, held_in, first_off, free_place, Entry, entry, entries_in}
use Rattle.settings.specs.Changes.{empty, set_in, remove_in}
use Rattle.settings.specs.Format.{half, entries_of, format_refusal, settled, read_refusal, bytes_of_entries, bytes_of_heading, bytes_of_file}
use Rattle.settings.specs.Promise.{store_refusal, set_refusal, held_refusal, write_refusal}

-- settings by their numbers
abbrev settings : ℕ → ℕ → ℕ → Settings
settings speed weight threshold = record { speed = speed; weight = weight; threshold = threshold }

-- RULES, Settings: the voices of the table: 7 with 1.25, 1 and 0.5, and 300 with 0.8, 0.7 and 0.45
abbrev worked : List Entry
worked = entry 7 (settings 0x3ff4_0000_0000_0000 0x3ff0_0000_0000_0000 0x3fe0_0000_0000_0000) ∷ entry 300 (settings 0x3fe9_9999_9999_999a 0x3fe6_6666_6666_6666 0x3fdc_cccc_cccc_cccd) ∷ []

abbrev bytes : List ℕ
bytes =
    86 ∷ 83 ∷ 84 ∷ 2 ∷ 0 ∷ 2 ∷ 0 ∷
    7 ∷ 0 ∷ 0 ∷ 0 ∷ 0 ∷ 0 ∷ 0 ∷ 0 ∷ 244 ∷ 63 ∷ 0 ∷ 0 ∷ 0 ∷ 0 ∷ 0 ∷ 0 ∷ 240 ∷ 63 ∷ 0 ∷ 0 ∷ 0 ∷ 0 ∷ 0 ∷ 0 ∷ 224 ∷ 63 ∷
    44 ∷ 1 ∷ 154 ∷ 153 ∷ 153 ∷ 153 ∷ 153 ∷ 153 ∷ 233 ∷ 63 ∷ 102 ∷ 102 ∷ 102 ∷ 102 ∷ 102 ∷ 102 ∷ 230 ∷ 63 ∷ 205 ∷ 204 ∷ 204 ∷ 204 ∷ 204 ∷ 204 ∷ 220 ∷ 63 ∷
    []

pub worked-file : (bytes_of_file 2 worked ≡ bytes) × (entries_of bytes ≡ worked) × (read_refusal bytes ≡ 0)
unfolding bytes_of_file bytes_of_heading bytes_of_entries flatten bytes_of entries_of build little read_refusal format_refusal starts_with alike holding count first_at
worked-file = (refl, refl, refl)

-- RULES, Settings: version 1 has no threshold, which is 0.5
abbrev first : List ℕ
first = 86 ∷ 83 ∷ 84 ∷ 1 ∷ 0 ∷ 1 ∷ 0 ∷ 7 ∷ 0 ∷ 1 ∷ 0 ∷ 0 ∷ 0 ∷ 0 ∷ 0 ∷ 0 ∷ 0 ∷ 2 ∷ 0 ∷ 0 ∷ 0 ∷ 0 ∷ 0 ∷ 0 ∷ 0 ∷ []

pub version_1 : (entries_of first ≡ entry 7 (settings 1 2 half) ∷ []) × (read_refusal first ≡ 0) × (read_refusal (set first 3 2) ≡ 18) × (read_refusal (set bytes 3 1) ≡ 18)
unfolding entries_of build little read_refusal format_refusal starts_with alike holding count first_at
version_1 = (refl, refl, refl, refl)

pub half_is : of_bits binary64 half ≡ div binary64 (of_int binary64 (pos 1)) (of_int binary64 (pos 2))
unfolding of_bits of_int div
half_is = refl

-- a file that begins with the mark
abbrev VST : List ℕ → List ℕ
VST behind = 86 ∷ 83 ∷ 84 ∷ behind

-- RULES, Settings: no byte, a letter too few, one byte of a version, the versions 3, 0 and 257, and nothing more; 1 and 2 without a number of records
pub cut : (format_refusal [] ≡ 18) × (format_refusal (86 ∷ 83 ∷ []) ≡ 18) × (format_refusal (VST []) ≡ 18) × (format_refusal (VST (3 ∷ [])) ≡ 18) × (format_refusal (VST (3 ∷ 0 ∷ [])) ≡ 16) × (format_refusal (VST (0 ∷ 0 ∷ [])) ≡ 16) × (format_refusal (VST (1 ∷ 1 ∷ [])) ≡ 16) × (format_refusal (VST (1 ∷ 0 ∷ [])) ≡ 18) × (format_refusal (VST (2 ∷ 0 ∷ 0 ∷ [])) ≡ 18)
unfolding format_refusal starts_with alike little
cut = (refl, refl, refl, refl, refl, refl, refl, refl, refl)

-- RULES, Settings: no records; a byte too many, one too few, a record too few; a wrong mark before a wrong version, and that before a wrong length
pub lengths : (format_refusal (VST (1 ∷ 0 ∷ 0 ∷ 0 ∷ [])) ≡ 0) × (format_refusal (VST (2 ∷ 0 ∷ 0 ∷ 0 ∷ [])) ≡ 0) × (format_refusal (bytes ++ (0 ∷ [])) ≡ 18) × (format_refusal (take 58 bytes) ≡ 18) × (format_refusal (set bytes 5 1) ≡ 18) × (format_refusal (set (set bytes 2 83) 3 3) ≡ 18) × (format_refusal (set (take 58 bytes) 3 3) ≡ 16)
unfolding format_refusal starts_with alike little
lengths = (refl, refl, refl, refl, refl, refl, refl)

-- a store of five places by another hand: 7 stands twice, 65,536 is no voice, and 65,535 is one
abbrev foreign : List ℕ
foreign = 7 ∷ 300 ∷ 7 ∷ 65536 ∷ 65535 ∷ []

abbrev numbered : List ℕ
numbered = 0 ∷ 1 ∷ 2 ∷ 3 ∷ 4 ∷ 5 ∷ 6 ∷ 7 ∷ 8 ∷ 9 ∷ 10 ∷ 11 ∷ 12 ∷ 13 ∷ 14 ∷ []

-- RULES, Settings: an earlier place has the number, or it is above 65,535: the place is free
pub by_another_hand : (holding foreign ≡ true ∷ true ∷ false ∷ false ∷ true ∷ []) × (held_in foreign ≡ 3) × (free_place foreign ≡ 2)
unfolding holding build first_at first_off count
by_another_hand = (refl, refl, refl)

pub held_there : entries_in (store foreign numbered) ≡ entry 7 (settings 0 1 2) ∷ entry 300 (settings 3 4 5) ∷ entry 65535 (settings 12 13 14) ∷ []
unfolding entries_in holding build select first_at
held_there = refl

-- RULES, Settings: a new voice takes the first free place, and one that is held keeps its own
pub sets_there : (set_in 9 (settings 90 91 92) (store foreign numbered) ≡ store (set foreign 2 9) (0 ∷ 1 ∷ 2 ∷ 3 ∷ 4 ∷ 5 ∷ 90 ∷ 91 ∷ 92 ∷ 9 ∷ 10 ∷ 11 ∷ 12 ∷ 13 ∷ 14 ∷ [])) × (set_in 300 (settings 90 91 92) (store foreign numbered) ≡ store foreign (0 ∷ 1 ∷ 2 ∷ 90 ∷ 91 ∷ 92 ∷ 6 ∷ 7 ∷ 8 ∷ 9 ∷ 10 ∷ 11 ∷ 12 ∷ 13 ∷ 14 ∷ []))
unfolding set_in holding build first_at first_off
sets_there = (refl, refl)

-- RULES, Settings: the place of a voice becomes free, and every later place with its number gets that of a free one, and keeps its settings
pub removes_there : remove_in 7 (store foreign numbered) ≡ store (free ∷ 300 ∷ free ∷ 65536 ∷ 65535 ∷ []) (0 ∷ 0 ∷ 0 ∷ 3 ∷ 4 ∷ 5 ∷ 6 ∷ 7 ∷ 8 ∷ 9 ∷ 10 ∷ 11 ∷ 12 ∷ 13 ∷ 14 ∷ [])
unfolding remove_in first_at replaced
removes_there = refl

-- RULES, Settings: the later record of a voice replaces the earlier in its place
pub later_replaces : settled (entry 7 (settings 1 1 1) ∷ entry 8 (settings 2 2 2) ∷ entry 7 (settings 3 3 3) ∷ []) ≡ entry 7 (settings 3 3 3) ∷ entry 8 (settings 2 2 2) ∷ []
unfolding settled fold_from first_at
later_replaces = refl

-- RULES, Settings: a store that is cleared
pub cleared : (take 2 empty.voices ≡ 4294967295 ∷ 4294967295 ∷ []) × (take 2 empty.settings ≡ 0 ∷ 0 ∷ [])
cleared = (refl, refl)

-- a file of version 1 with so many records, each of a voice of its own: a record's 18 bytes as one number
abbrev many : ℕ → List ℕ
many n = VST (1 ∷ 0 ∷ []) ++ (bytes_of 2 n ++ rows (λ i. bytes_of 18 i) n)

-- RULES, Settings: 256 voices, and 257; the length goes before 17
pub too_many : (read_refusal (many 256) ≡ 0) × (read_refusal (many 257) ≡ 17) × (read_refusal (many 257 ++ (0 ∷ [])) ≡ 18)
unfolding read_refusal format_refusal starts_with alike little entries_of build holding count first_at bytes_of rows
too_many = (refl, refl, refl)

-- 256 voices, 0 to 255, and room for their settings
abbrev whole : List ℕ
whole = build (λ i. i) 256

abbrev room : List ℕ
room = replicate 768 0

-- RULES, Settings: 17 where 256 others are held; not for one that is held, nor where a place repeats another's number
pub full : (set_refusal 300 whole room ≡ 17) × (set_refusal 5 whole room ≡ 0) × (set_refusal 300 (set whole 200 3) room ≡ 0) × (set_refusal 300 (set whole 255 65536) room ≡ 0)
unfolding set_refusal holding build first_at count
full = (refl, refl, refl, refl)

-- RULES, Settings: 3 before 6, and 6 before 17, 18 and 19; a list with a place too few, in either
pub order : (set_refusal 65536 [] [] ≡ 3) × (set_refusal 65535 [] [] ≡ 6) × (set_refusal 300 whole (take 767 room) ≡ 6) × (set_refusal 300 (take 255 whole) room ≡ 6) × (held_refusal 300 [] room ≡ 6) × (held_refusal 300 whole room ≡ 19) × (or_else (store_refusal [] room) (read_refusal []) ≡ 6)
unfolding set_refusal held_refusal holding build first_at count read_refusal format_refusal starts_with alike
order = (refl, refl, refl, refl, refl, refl, refl)

-- RULES, Settings: an output that is a byte shorter than the file of no voices
pub write_room : (write_refusal (replicate 256 free) room (replicate 6 0) ≡ 6) × (write_refusal (replicate 256 free) room (replicate 7 0) ≡ 0) × (write_refusal (replicate 255 free) room (replicate 7 0) ≡ 6)
unfolding write_refusal bytes_of_file bytes_of_heading bytes_of_entries flatten bytes_of entries_in holding build select first_at
write_room = (refl, refl, refl)
