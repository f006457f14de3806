-- Which records a settings file of a version has room for.
use Rattle.std.specs.Prelude.{◌≡◌, true, List, ℕ, ◌^◌, ◌<◌, length, get_or}
use Rattle.settings.specs.Store.{Entry, entry}
use Rattle.settings.specs.Format.{is_known, half}

-- RULES, Settings: the number of a voice in 16 bits, each setting in 64; of version 1 the threshold is 0.5
pub record Fits (version : ℕ) (e : Entry) : Type 0 where
  pub voice : e.voice < 65536
  pub speed : e.settings.speed < 2 ^ 64
  pub weight : e.settings.weight < 2 ^ 64
  pub threshold : e.settings.threshold < 2 ^ 64
  pub first : version ≡ 1 → e.settings.threshold ≡ half

-- what stands behind the last of a list of records
abbrev pub nothing : Entry
nothing = entry 0 (record { speed = 0; weight = 0; threshold = 0 })

-- RULES, Settings: version 1 or 2, and the number of records in 16 bits
pub record Writable (version : ℕ) (es : List Entry) : Type 0 where
  pub known : is_known version ≡ true
  pub few : length es < 65536
  pub each : (i : ℕ) → i < length es → Fits version (get_or es i nothing)
