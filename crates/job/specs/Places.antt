-- What the place of a damage says of the file.
use Rattle.std.specs.Prelude.{◌≡◌, true, false, cond, List, ◌++◌, ℕ, ◌+◌, ◌≤◌, ◌<◌, eqb, length, take}
use Rattle.lists.specs.Bytes.{Bytes}
use Rattle.job.specs.declared.Damage.{Damage}
use Rattle.job.specs.declared.Damage.TheVariants.{Mark, Version, Count, Length}
use Rattle.job.specs.Format.{IsJob}
use Rattle.job.specs.Damage.{wrong, damage_of, damage_number, is_damage}

-- some job begins with these bytes
pub record Begins (bytes : List ℕ) : Type 0 where
  pub rest : List ℕ
  pub each : Bytes rest
  pub job : IsJob (bytes ++ rest)

-- RULES, Job file: what a file has of a field in which it ends is not looked at, of the version from 3 on and of the number of states from 5 on
abbrev pub looked_to : ℕ → ℕ
looked_to place = cond (eqb place 4) 3 (cond (eqb place 6) 5 place)

-- RULES, Job file: the bytes that are wrong from the place on: one of the mark, the two of a field, the first too many
abbrev pub wide : Damage → ℕ
wide Mark = 1
wide Version = 2
wide Count = 2
wide Length = 1

-- The place is right: all that is looked at before it is as the format asks; no job begins with the file's bytes up to and with what is wrong there; and a file that ends
-- there is no job. Which place it is, where more than one is right in this sense, `damage_of` says.
pub record PlaceRight (bytes : List ℕ) (what : Damage) (place : ℕ) : Type 0 where
  pub within : place ≤ length bytes
  pub before : Begins (take (looked_to place) bytes)
  pub there : place < length bytes → Begins (take (place + wide what) bytes) → ⊥
  pub ends : place ≡ length bytes → IsJob bytes → ⊥

-- a damage is told: the number of what is found wrong with a file, at that place, and the place is right
pub record Tells (bytes : List ℕ) (number place : ℕ) : Type 0 where
  pub what : Damage
  pub is : number ≡ damage_number what
  pub found : damage_of bytes ≡ wrong what place
  pub right : PlaceRight bytes what place

-- RULES, Refusals: a damage alone has a place: of any other answer the place is left as it was
pub record PlaceTold (bytes : List ℕ) (number old new : ℕ) : Type 0 where
  pub kept : is_damage number ≡ false → new ≡ old
  pub told : is_damage number ≡ true → Tells bytes number new
