-- Where a number of a trajectory stands, and where it stands in the spool.
use Rattle.std.specs.Prelude.{ℕ, ◌+◌, ◌*◌}

-- RULES, Sizes: a trajectory stands frame after frame, v numbers each
abbrev pub number_of : ℕ → ℕ → ℕ → ℕ
number_of frame component v = frame * v + component

-- RULES, Places: a number's place in the spool, at 8 bytes each
abbrev pub place_of : ℕ → ℕ → ℕ → ℕ
place_of frame component v = number_of frame component v * 8
