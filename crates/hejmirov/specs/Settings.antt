-- What the C calls of a store of settings promise: a call below is made, with floats as the bits that are kept.
use Rattle.std.specs.Prelude.{◌≡◌, Result, Ok, Err, List, ℕ, Float}
use Rattle.std.specs.Float.{binary64}
use Rattle.std.specs.Float.Ieee.{of_bits, to_bits}
use Rattle.settings.specs.declared.Settings.{Settings}
use Rattle.lists.specs.Refusals.{number_of}
use Rattle.lists.specs.declared.Refusal.{Refusal}
use Rattle.lists.specs.Ends.{counted, refused}
use Rattle.settings.specs.Promise.{ClearSays, SetSays, GetSays, RemoveSays, CountSays, ReadSays, WriteSays}
use Rattle.hejmirov.specs.Promise.{HandsOne}

-- RULES, Settings: set is given floats, and get gives them
abbrev pub bits_of : Float → Float → Float → Settings
bits_of speed weight threshold = record { speed = to_bits binary64 speed; weight = to_bits binary64 weight; threshold = to_bits binary64 threshold }

-- RULES, Forms: the number of an answer of get
abbrev pub got_number : Result Settings Refusal → ℕ
got_number (Ok s) = 0
got_number (Err e) = number_of e

-- RULES, Refusals: a setting is handed out where there is one, and what was there stays where not
abbrev pub handed_float : Result Settings Refusal → (Settings → ℕ) → Float → Float
handed_float (Ok s) which old = of_bits binary64 (which s)
handed_float (Err e) which old = old

-- an answer's number, and its settings behind pointers
pub record HandsSettings (a : Result Settings Refusal) (speed weight threshold : Float) (r : ℕ) (speed' weight' threshold' : Float) : Type 0 where
  pub answers : r ≡ got_number a
  pub first : speed' ≡ handed_float a (λ s. s.speed) speed
  pub second : weight' ≡ handed_float a (λ s. s.weight) weight
  pub third : threshold' ≡ handed_float a (λ s. s.threshold) threshold

-- `hejmirov_settings_clear`
pub record SettingsClearCallSays (voices settings : List ℕ) (r : ℕ) (voices' settings' : List ℕ) : Type 0 where
  pub answer : Result (Unit {0}) Refusal
  pub says : ClearSays voices settings answer voices' settings'
  pub gives : r ≡ refused answer

-- `hejmirov_settings_set`
pub record SettingsSetCallSays (voices settings : List ℕ) (voice : ℕ) (speed weight threshold : Float) (r : ℕ) (voices' settings' : List ℕ) : Type 0 where
  pub answer : Result (Unit {0}) Refusal
  pub says : SetSays voices settings voice (bits_of speed weight threshold) answer voices' settings'
  pub gives : r ≡ refused answer

-- `hejmirov_settings_get`
pub record SettingsGetCallSays (voices settings : List ℕ) (voice : ℕ) (speed weight threshold : Float) (r : ℕ) (speed' weight' threshold' : Float) : Type 0 where
  pub answer : Result Settings Refusal
  pub says : GetSays voices settings voice answer
  pub gives : HandsSettings answer speed weight threshold r speed' weight' threshold'

-- `hejmirov_settings_remove`
pub record SettingsRemoveCallSays (voices settings : List ℕ) (voice r : ℕ) (voices' settings' : List ℕ) : Type 0 where
  pub answer : Result (Unit {0}) Refusal
  pub says : RemoveSays voices settings voice answer voices' settings'
  pub gives : r ≡ refused answer

-- `hejmirov_settings_count`
pub record SettingsCountCallSays (voices : List ℕ) (held r held' : ℕ) : Type 0 where
  pub answer : Result ℕ Refusal
  pub says : CountSays voices answer
  pub gives : HandsOne (counted answer) held r held'

-- `hejmirov_settings_read`
pub record SettingsReadCallSays (voices settings bytes : List ℕ) (r : ℕ) (voices' settings' : List ℕ) : Type 0 where
  pub answer : Result (Unit {0}) Refusal
  pub says : ReadSays voices settings bytes answer voices' settings'
  pub gives : r ≡ refused answer

-- `hejmirov_settings_write`
pub record SettingsWriteCallSays (voices settings out : List ℕ) (written r : ℕ) (out' : List ℕ) (written' : ℕ) : Type 0 where
  pub answer : Result ℕ Refusal
  pub says : WriteSays voices settings out answer out'
  pub gives : HandsOne (counted answer) written r written'
