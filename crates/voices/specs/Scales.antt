-- How many decimals are printed.
use Rattle.std.specs.Prelude.{ℕ}

-- the scale of 15 decimals
abbrev pub most_scale : ℕ
most_scale = 1000000000000000
