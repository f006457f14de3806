-- Flat lists of floats: elements, and band matrices.
use Rattle.std.specs.Prelude.{ℕ, ◌+◌, ◌*◌, List, get_or, Float}
use Rattle.std.specs.Float.{nan}
use Rattle.lists.specs.Parts.{part}

-- element i of a list
abbrev pub elem : List Float → ℕ → Float
elem xs i = get_or xs i nan

-- A band matrix of width w is one list, row t at t * w. Its entry j of row t is the matrix's entry (t, t + j).
abbrev pub entry : ℕ → List Float → ℕ → ℕ → Float
entry w m t j = get_or m (t * w + j) nan

abbrev pub row : ℕ → List Float → ℕ → List Float
row w m t = part (t * w) w m
