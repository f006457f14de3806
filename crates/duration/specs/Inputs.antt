-- What worked cases are called with: the states (2, 1), (3, 1), an output of sevens and a work space of nines, so that what a call leaves is said too.
use Rattle.std.specs.Prelude.{false, List, [], ◌∷◌, ℕ, negsuc, Float}
use Rattle.std.specs.Float.{fin}
use Rattle.std.specs.Float.Ieee.{neg}
use Rattle.floats.specs.Numbers.{number}

abbrev pub two_three : List Float
two_three = number 2 ∷ number 3 ∷ []

abbrev pub one-one : List Float
one-one = number 1 ∷ number 1 ∷ []

abbrev pub ones : List ℕ
ones = 1 ∷ 1 ∷ []

abbrev pub sevens : List ℕ
sevens = 7 ∷ 7 ∷ 7 ∷ []

abbrev pub nines : List ℕ
nines = 9 ∷ 9 ∷ 9 ∷ []

-- the nines after a call that clears two of them
abbrev pub cleared : List ℕ
cleared = 0 ∷ 0 ∷ 9 ∷ []

-- n / 2, and an end that is open
abbrev pub halves : ℕ → Float
halves n = fin false n (negsuc 0)

abbrev pub unset : Float
unset = neg (number 1)
