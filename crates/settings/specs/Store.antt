-- A store of voices' settings: what the lists that are lent for it hold.
use Rattle.std.specs.Prelude.{Bool, true, false, ◌&&◌, List, [], ◌∷◌, ℕ, suc, ◌+◌, ◌*◌, leb, ltb, eqb, length, take, get_or}
use Rattle.lists.specs.Sizes.{most_voices, most_voice}
use Rattle.lists.specs.Build.{build}
use Rattle.lists.specs.Frames.{select, count}
use Rattle.lists.specs.Firsts.{first_at}
use Rattle.settings.specs.declared.Settings.{Settings}

-- RULES, Settings: three settings for each place
abbrev pub store_settings : ℕ
store_settings = 3 * most_voices

-- RULES, Settings: a number for each place, and the settings of all places
pub record Store : Type 0 where
  pub voices : List ℕ
  pub settings : List ℕ

abbrev pub store : List ℕ → List ℕ → Store
store voices settings = record { voices = voices; settings = settings }

-- RULES, Settings: what lies behind these in either list is not looked at
abbrev pub store_of : List ℕ → List ℕ → Store
store_of voices settings = store (take most_voices voices) (take store_settings settings)

-- RULES, Settings: the number that clear leaves, which is above every voice's
abbrev pub free : ℕ
free = 4294967295

-- RULES, Settings: a place holds the voice of its number, unless that is above 65,535 or an earlier place has it
abbrev pub holds_at : List ℕ → ℕ → Bool
holds_at voices i = let v = get_or voices i free in leb v most_voice && eqb (first_at v voices) i

-- which places hold a voice
unfoldable pub holding : List ℕ → List Bool
holding voices = build (holds_at voices) (length voices)

-- RULES, Settings: how many voices are held
abbrev pub held_in : List ℕ → ℕ
held_in voices = count (holding voices)

-- whether a voice is held, of a number that one can have: it is at the first place with that number
abbrev pub is_held : ℕ → List ℕ → Bool
is_held voice voices = ltb (first_at voice voices) (length voices)

-- how many of these are on before the first that isn't
unfoldable pub first_off : List Bool → ℕ
first_off [] = 0
first_off (true ∷ bs) = suc (first_off bs)
first_off (false ∷ bs) = 0

-- RULES, Settings: the first free place, or the number of places where none is
abbrev pub free_place : List ℕ → ℕ
free_place voices = first_off (holding voices)

-- RULES, Settings: the speed, the GV weight and the threshold, in that order; three for each place
abbrev pub in_order : Settings → List ℕ
in_order s = s.speed ∷ s.weight ∷ s.threshold ∷ []

abbrev pub settings_at : List ℕ → ℕ → Settings
settings_at settings i = record { speed = get_or settings (3 * i) 0; weight = get_or settings (3 * i + 1) 0; threshold = get_or settings (3 * i + 2) 0 }

-- a voice and its settings, as a record of a file has them
pub record Entry : Type 0 where
  pub voice : ℕ
  pub settings : Settings

abbrev pub entry : ℕ → Settings → Entry
entry voice settings = record { voice = voice; settings = settings }

abbrev pub entry_in : Store → ℕ → Entry
entry_in s i = entry (get_or s.voices i free) (settings_at s.settings i)

-- what is held, in the order of the places
unfoldable pub entries_in : Store → List Entry
entries_in s = select (holding s.voices) (build (entry_in s) (length s.voices))
