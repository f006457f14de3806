-- What the calls promise.
use Rattle.std.specs.Prelude.{◌≡◌, Result, cond, ◌||◌, List, [], ◌∷◌, ℕ, ltb, length, take}
use Rattle.lists.specs.Sizes.{most_voices, most_voice}
use Rattle.lists.specs.Refusals.{or_else}
use Rattle.lists.specs.Answers.{Answer, answer_of, written}
pub use Rattle.lists.specs.Ends.{answered, counted, refused}
use Rattle.lists.specs.Firsts.{first_at}
use Rattle.settings.specs.declared.Settings.{Settings}
use Rattle.lists.specs.declared.Refusal.{Refusal}
use Rattle.settings.specs.Store.{Store, store_settings, store_of, is_held, held_in, in_order, settings_at, entries_in}
use Rattle.settings.specs.Changes.{empty, set_in, remove_in}
use Rattle.settings.specs.Format.{read_refusal, read_in, bytes_of_file}

-- RULES, Forms: number and values of get's answer: 0 and a voice's settings, or a refusal's number alone
abbrev pub got : Result Settings Refusal → Answer
got = answered in_order

-- ---- refusals

-- RULES, Settings: a list with fewer than 256 places is refused with 6
abbrev pub count_refusal : List ℕ → ℕ
count_refusal voices = cond (ltb (length voices) most_voices) 6 0

abbrev pub store_refusal : List ℕ → List ℕ → ℕ
store_refusal voices settings = cond (ltb (length voices) most_voices || ltb (length settings) store_settings) 6 0

-- RULES, Settings: the number of a voice above 65,535 with 3, before that
abbrev pub voice_refusal : ℕ → List ℕ → List ℕ → ℕ
voice_refusal voice voices settings = or_else (cond (ltb most_voice voice) 3 0) (store_refusal voices settings)

-- RULES, Settings: a voice that isn't held is refused with 17 where 256 others are
unfoldable pub set_refusal : ℕ → List ℕ → List ℕ → ℕ
set_refusal voice voices settings =
    let s = store_of voices settings in
    or_else (voice_refusal voice voices settings) (cond (is_held voice s.voices || ltb (held_in s.voices) most_voices) 0 17)

-- RULES, Settings: 19 where no place holds the voice
unfoldable pub held_refusal : ℕ → List ℕ → List ℕ → ℕ
held_refusal voice voices settings = or_else (voice_refusal voice voices settings) (cond (is_held voice (store_of voices settings).voices) 0 19)

-- ---- promises

-- RULES, Refusals: a call that changes a store, with the number of its refusal and the store that it leaves where that is 0
pub record ChangesTo (k : ℕ) (new : Store) (voices settings : List ℕ) (r : Result (Unit {0}) Refusal) (voices' settings' : List ℕ) : Type 0 where
  pub answer : refused r ≡ k
  pub numbers : voices' ≡ written k new.voices voices
  pub kept : settings' ≡ written k new.settings settings

abbrev pub ClearSays : List ℕ → List ℕ → Result (Unit {0}) Refusal → List ℕ → List ℕ → Type 0
ClearSays voices settings = ChangesTo (store_refusal voices settings) empty voices settings

abbrev pub SetSays : List ℕ → List ℕ → ℕ → Settings → Result (Unit {0}) Refusal → List ℕ → List ℕ → Type 0
SetSays voices settings voice given = ChangesTo (set_refusal voice voices settings) (set_in voice given (store_of voices settings)) voices settings

abbrev pub RemoveSays : List ℕ → List ℕ → ℕ → Result (Unit {0}) Refusal → List ℕ → List ℕ → Type 0
RemoveSays voices settings voice = ChangesTo (held_refusal voice voices settings) (remove_in voice (store_of voices settings)) voices settings

-- RULES, Settings: reading replaces the store
abbrev pub ReadSays : List ℕ → List ℕ → List ℕ → Result (Unit {0}) Refusal → List ℕ → List ℕ → Type 0
ReadSays voices settings bytes = ChangesTo (or_else (store_refusal voices settings) (read_refusal bytes)) (read_in bytes) voices settings

-- RULES, Settings: the settings of the place that holds the voice
abbrev pub GetSays : List ℕ → List ℕ → ℕ → Result Settings Refusal → Type 0
GetSays voices settings voice r = let s = store_of voices settings in got r ≡ answer_of (held_refusal voice voices settings) (in_order (settings_at s.settings (first_at voice s.voices)))

abbrev pub CountSays : List ℕ → Result ℕ Refusal → Type 0
CountSays voices r = counted r ≡ answer_of (count_refusal voices) (held_in (take most_voices voices) ∷ [])

-- RULES, Settings: version 2, with a record for each place that holds a voice
abbrev pub file_in : Store → List ℕ
file_in s = bytes_of_file 2 (entries_in s)

-- RULES, Settings: a store or an output that is too short is refused with 6
unfoldable pub write_refusal : List ℕ → List ℕ → List ℕ → ℕ
write_refusal voices settings out = or_else (store_refusal voices settings) (cond (ltb (length out) (length (file_in (store_of voices settings)))) 6 0)

pub record WriteSays (voices settings out : List ℕ) (r : Result ℕ Refusal) (out' : List ℕ) : Type 0 where
  pub answer : counted r ≡ answer_of (write_refusal voices settings out) (length (file_in (store_of voices settings)) ∷ [])
  pub output : out' ≡ written (write_refusal voices settings out) (file_in (store_of voices settings)) out
