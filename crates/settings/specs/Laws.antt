-- What is said of calls one after the other, and of when a store is full.
use Rattle.std.specs.Prelude.{◌≡◌, Result, true, false, List, [], ◌∷◌, ℕ, ◌≤◌, length, take}
use Rattle.lists.specs.Sizes.{most_voices, most_voice}
use Rattle.lists.specs.Frames.{count}
use Rattle.lists.specs.Firsts.{first_at}
use Rattle.lists.specs.declared.Refusal.{Refusal}
use Rattle.settings.specs.declared.Settings.{Settings}
use Rattle.settings.specs.Store.{store_settings, store_of, is_held, held_in, holding, Entry, entries_in}
use Rattle.settings.specs.Promise.{SetSays, GetSays}

-- RULES, Settings: a store is full for a voice: it isn't held, and 256 others are
pub record Full (voice : ℕ) (voices settings : List ℕ) : Type 0 where
  pub fits : voice ≤ most_voice
  pub numbers : most_voices ≤ length voices
  pub kept : store_settings ≤ length settings
  pub other : is_held voice (take most_voices voices) ≡ false
  pub all : held_in (take most_voices voices) ≡ most_voices

-- These records were set one after the other with these answers, each as its promise says: the lists before them, and after them.
pub data Sets : List ℕ → List ℕ → List Entry → List (Result (Unit {0}) Refusal) → List ℕ → List ℕ → Type 0 where
  none : {voices settings : List ℕ} → Sets voices settings [] [] voices settings
  set_then : {voices settings voices' settings' voices'' settings'' : List ℕ} {e : Entry} {r : Result (Unit {0}) Refusal} {es : List Entry} {rs : List (Result (Unit {0}) Refusal)}
      → SetSays voices settings e.voice e.settings r voices' settings' → Sets voices' settings' es rs voices'' settings'' → Sets voices settings (e ∷ es) (r ∷ rs) voices'' settings''

-- RULES, Settings: what was written is read back: the same voices in the same order with the same settings, bit for bit, and each voice's place is how many before it held a voice
pub record SameSettings (voices settings voices' settings' : List ℕ) : Type 0 where
  pub entries : entries_in (store_of voices' settings') ≡ entries_in (store_of voices settings)
  pub gets : (voice : ℕ) (r r' : Result Settings Refusal) → GetSays voices settings voice r → GetSays voices' settings' voice r' → r' ≡ r
  pub places : (voice : ℕ) → voice ≤ most_voice → is_held voice (take most_voices voices) ≡ true → first_at voice (take most_voices voices') ≡ count (take (first_at voice (take most_voices voices)) (holding (take most_voices voices)))
