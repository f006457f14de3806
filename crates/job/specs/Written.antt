-- The job file from the other side: the bytes of a job.
use Rattle.std.specs.Prelude.{◌≡◌, true, cond, List, [], ◌∷◌, ◌++◌, ℕ, ◌+◌, ◌*◌, ◌%◌, ◌^◌, ◌≤◌, ◌<◌, T, eqb, length, get_or, replicate, Float}
use Rattle.std.specs.Float.{binary64}
use Rattle.std.specs.Float.Ieee.{fits, to_bits}
use Rattle.lists.specs.Sizes.{most_job_states}
use Rattle.lists.specs.Bytes.{bytes_of, Bytes, pattern_at}
use Rattle.floats.specs.Numbers.{Held}
use Rattle.job.specs.Format.{mark, version_of, is_known, count_of, state_bytes, Job}

-- RULES, Job file: a float stands as its pattern
abbrev pub bytes_of_float : Float → List ℕ
bytes_of_float x = bytes_of 8 (to_bits binary64 x)

-- RULES, Job file: a state's mean, its variance, and in version 2 its shortest
abbrev pub bytes_of_state : ℕ → Float → Float → ℕ → List ℕ
bytes_of_state version m v s = bytes_of_float m ++ (bytes_of_float v ++ cond (eqb version 1) [] (bytes_of 4 s))

-- RULES, Job file: state after state
unfoldable pub bytes_of_states : ℕ → List Float → List Float → List ℕ → List ℕ
bytes_of_states version [] vs ss = []
bytes_of_states version (m ∷ ms) [] ss = []
bytes_of_states version (m ∷ ms) (v ∷ vs) [] = []
bytes_of_states version (m ∷ ms) (v ∷ vs) (s ∷ ss) = bytes_of_state version m v s ++ bytes_of_states version ms vs ss

-- RULES, Job file: the mark, the version, the number of states and the speed
unfoldable pub bytes_of_heading : ℕ → ℕ → Float → List ℕ
bytes_of_heading version count speed = mark ++ (bytes_of 2 version ++ (bytes_of 2 count ++ bytes_of_float speed))

unfoldable pub bytes_of_job : ℕ → Job → List ℕ
bytes_of_job version j = bytes_of_heading version (length j.means) j.speed ++ bytes_of_states version j.means j.varis j.shortest

-- a job that the format has room for in a version, whose numbers are f64; version 1 can say no shortest but 1, and version 2 those of 32 bits
pub record Writable (version : ℕ) (j : Job) : Type 0 where
  pub known : is_known version ≡ true
  pub few : length j.means ≤ most_job_states
  pub agree : (length j.varis ≡ length j.means) × (length j.shortest ≡ length j.means)
  pub speed : T (fits binary64 j.speed)
  pub means : Held j.means
  pub varis : Held j.varis
  pub ones : version ≡ 1 → j.shortest ≡ replicate (length j.means) 1
  pub small : version ≡ 2 → (i : ℕ) → get_or j.shortest i 0 < 2 ^ 32

-- a pattern is no NaN's, which are those above infinity's, the sign aside; or it is the one that is written for every NaN
abbrev pub OneNan : ℕ → Type 0
OneNan pattern = 0x7ff0_0000_0000_0000 < pattern % 2 ^ 63 → pattern ≡ 0x7ff8_0000_0000_0000

-- bytes whose floats, the speed and two a state, have no NaN but that one
pub record Plain (bytes : List ℕ) : Type 0 where
  pub each : Bytes bytes
  pub speed : OneNan (pattern_at bytes 7)
  pub means : (i : ℕ) → i < count_of bytes → OneNan (pattern_at bytes (15 + state_bytes (version_of bytes) * i))
  pub varis : (i : ℕ) → i < count_of bytes → OneNan (pattern_at bytes (23 + state_bytes (version_of bytes) * i))
