-- The settings file: what its bytes say, and the bytes of what is said.
use Rattle.std.specs.Prelude.{Bool, cond, ◌||◌, ℕ, suc, ◌+◌, ◌*◌, ltb, eqb, length, take, drop}
use mathlib.Core.List.{List, [], ◌∷◌, ◌++◌, map, flatten}
use Rattle.lists.specs.Sizes.{most_voices}
use Rattle.lists.specs.Refusals.{or_else}
use Rattle.lists.specs.Build.{build, fold_from}
use Rattle.lists.specs.Bytes.{bytes_of, word_at, pattern_at, starts_with}
use Rattle.lists.specs.Firsts.{first_at}
use Rattle.settings.specs.declared.Settings.{Settings}
use Rattle.settings.specs.Store.{Store, held_in, Entry, entry}
use Rattle.settings.specs.Changes.{empty, set_in}

-- RULES, Settings: first come the letters V, S and T
abbrev pub mark : List ℕ
mark = 86 ∷ 83 ∷ 84 ∷ []

-- RULES, Settings: then the version in 16 bits, 1 or 2, and the number of records in 16 bits
abbrev pub version_of : List ℕ → ℕ
version_of bytes = word_at bytes 3

abbrev pub is_known : ℕ → Bool
is_known version = eqb version 1 || eqb version 2

abbrev pub count_of : List ℕ → ℕ
count_of bytes = word_at bytes 5

-- RULES, Settings: the file is 7 + 18 × records bytes long, or 7 + 26 × records
abbrev pub head_bytes : ℕ
head_bytes = 7

abbrev pub entry_bytes : ℕ → ℕ
entry_bytes version = cond (eqb version 1) 18 26

abbrev pub length_of : ℕ → ℕ → ℕ
length_of version count = head_bytes + entry_bytes version * count

-- RULES, Settings: version 1 has no threshold, which is 0.5, by its bits
abbrev pub half : ℕ
half = 0x3fe0_0000_0000_0000

-- RULES, Settings: a record is the number of a voice in 16 bits and its settings, 64 bits each
abbrev pub settings_from : ℕ → List ℕ → ℕ → Settings
settings_from version bytes at = record { speed = pattern_at bytes (at + 2); weight = pattern_at bytes (at + 10); threshold = cond (eqb version 1) half (pattern_at bytes (at + 18)) }

abbrev pub entry_from : ℕ → List ℕ → ℕ → Entry
entry_from version bytes at = entry (word_at bytes at) (settings_from version bytes at)

-- number i of a file of this version
abbrev pub entry_at : ℕ → List ℕ → ℕ → Entry
entry_at version bytes i = entry_from version bytes (head_bytes + entry_bytes version * i)

-- RULES, Settings: the records of a file
unfoldable pub entries_of : List ℕ → List Entry
entries_of bytes = build (entry_at (version_of bytes) bytes) (count_of bytes)

-- RULES, Settings: 18 for a wrong mark, and for a file that ends before the version's last byte; then 16; then 18 for any other length
unfoldable pub format_refusal : List ℕ → ℕ
format_refusal bytes =
    or_else (cond (starts_with mark bytes) 0 18)
    (or_else (cond (ltb (length bytes) 5) 18 0)
    (or_else (cond (is_known (version_of bytes)) 0 16)
    (cond (eqb (length bytes) (length_of (version_of bytes) (count_of bytes))) 0 18)))

-- the voices of records
abbrev pub voices_of : List Entry → List ℕ
voices_of es = map (λ (e : Entry). e.voice) es

-- RULES, Settings: 17 where there are more than 256 different voices; a list of numbers holds each of its voices once
unfoldable pub read_refusal : List ℕ → ℕ
read_refusal bytes = or_else (format_refusal bytes) (cond (ltb most_voices (held_in (voices_of (entries_of bytes)))) 17 0)

-- RULES, Settings: what a cleared store becomes when the records are set one after the other
abbrev pub set_entry : Store → Entry → Store
set_entry s e = set_in e.voice e.settings s

unfoldable pub read_in : List ℕ → Store
read_in bytes = fold_from set_entry empty (entries_of bytes)

-- RULES, Settings: the later record of a voice replaces the earlier in its place, and that of another voice comes behind all
abbrev pub put_entry : List Entry → Entry → List Entry
put_entry es e = let p = first_at e.voice (voices_of es) in take p es ++ (e ∷ drop (suc p) es)

-- so one record is left for each voice
unfoldable pub settled : List Entry → List Entry
settled es = fold_from put_entry [] es

-- ---- from the other side

-- RULES, Settings: the bytes of a record, and of the records of a file of a version
abbrev pub bytes_of_entry : ℕ → Entry → List ℕ
bytes_of_entry version e =
    let s = e.settings in
    bytes_of 2 e.voice ++ (bytes_of 8 s.speed ++ (bytes_of 8 s.weight ++ cond (eqb version 1) [] (bytes_of 8 s.threshold)))

unfoldable pub bytes_of_entries : ℕ → List Entry → List ℕ
bytes_of_entries version es = flatten (map (bytes_of_entry version) es)

-- RULES, Settings: the mark, the version and the number of records
unfoldable pub bytes_of_heading : ℕ → ℕ → List ℕ
bytes_of_heading version count = mark ++ (bytes_of 2 version ++ bytes_of 2 count)

unfoldable pub bytes_of_file : ℕ → List Entry → List ℕ
bytes_of_file version es = bytes_of_heading version (length es) ++ bytes_of_entries version es
