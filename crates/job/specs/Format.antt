-- The job file.
use Rattle.std.specs.Prelude.{◌≡◌, Bool, true, cond, ◌||◌, List, [], ◌∷◌, ℕ, ◌+◌, ◌*◌, ◌≤◌, eqb, length, take, drop, replicate, Float}
use Rattle.std.specs.Float.{binary64}
use Rattle.std.specs.Float.Ieee.{of_bits}
use Rattle.lists.specs.Sizes.{most_job_states}
use Rattle.lists.specs.Build.{build}
use Rattle.lists.specs.Bytes.{little, word_at, pattern_at}
use Rattle.steps.specs.Steps.{States, states}

-- RULES, Job file: every number stands with its least byte first; the float at a place, and the number of 32 bits
abbrev pub float_at : List ℕ → ℕ → Float
float_at bytes at = of_bits binary64 (pattern_at bytes at)

abbrev pub number_at : List ℕ → ℕ → ℕ
number_at bytes at = little (take 4 (drop at bytes))

-- n floats from a place on, step bytes apart
unfoldable pub floats_at : List ℕ → ℕ → ℕ → ℕ → List Float
floats_at bytes at step n = build (λ i. float_at bytes (at + step * i)) n

-- RULES, Job file: first come the letters S, P and J
abbrev pub mark : List ℕ
mark = 83 ∷ 80 ∷ 74 ∷ []

-- RULES, Job file: then the version in 16 bits, 1 or 2
abbrev pub version_of : List ℕ → ℕ
version_of bytes = word_at bytes 3

abbrev pub is_known : ℕ → Bool
is_known version = eqb version 1 || eqb version 2

-- RULES, Job file: then the number of states in 16 bits
abbrev pub count_of : List ℕ → ℕ
count_of bytes = word_at bytes 5

-- RULES, Job file: a state has 16 bytes in version 1, and 20 in version 2
abbrev pub state_bytes : ℕ → ℕ
state_bytes version = cond (eqb version 1) 16 20

-- RULES, Job file: a job has 15 bytes and those of its states, and none behind them
abbrev pub length_of : ℕ → ℕ → ℕ
length_of version count = 15 + state_bytes version * count

-- the length that a file's own version and number of states ask for
abbrev pub whole_of : List ℕ → ℕ
whole_of bytes = length_of (version_of bytes) (count_of bytes)

-- RULES, Job file: bytes that depart from none of this
pub record IsJob (bytes : List ℕ) : Type 0 where
  pub marked : take 3 bytes ≡ mark
  pub versioned : is_known (version_of bytes) ≡ true
  pub few : count_of bytes ≤ most_job_states
  pub whole : length bytes ≡ whole_of bytes

pub record Job : Type 0 where
  pub speed : Float
  pub means : List Float
  pub varis : List Float
  pub shortest : List ℕ

-- its states
abbrev pub job_states : Job → States
job_states j = states j.means j.varis j.shortest

-- RULES, Job file: in version 2 each state's shortest, of 32 bits, stands behind its mean and its variance
unfoldable pub numbers_behind : List ℕ → ℕ → List ℕ
numbers_behind bytes n = build (λ i. number_at bytes (31 + 20 * i)) n

-- RULES, Job file: version 1 has no shortest, and each is 1
abbrev pub shortest_at : ℕ → List ℕ → ℕ → List ℕ
shortest_at version bytes n = cond (eqb version 1) (replicate n 1) (numbers_behind bytes n)

-- RULES, Job file: then the speed, and of each state its mean, its variance and its shortest; here of n states
abbrev pub job_at : List ℕ → ℕ → Job
job_at bytes n =
    let version = version_of bytes in
    let step = state_bytes version in
    record { speed = float_at bytes 7; means = floats_at bytes 15 step n; varis = floats_at bytes 23 step n; shortest = shortest_at version bytes n }

abbrev pub job_of : List ℕ → Job
job_of bytes = job_at bytes (count_of bytes)
