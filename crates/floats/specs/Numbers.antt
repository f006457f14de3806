-- Whole numbers as floats, and the floats that are lent.
use Rattle.std.specs.Prelude.{List, ℕ, T, pos, get_or, Float}
use Rattle.std.specs.Float.{nan, binary64}
use Rattle.std.specs.Float.Ieee.{fits, of_bits, of_int}

-- +0
abbrev pub nought : Float
nought = of_bits binary64 0

-- 1
abbrev pub one : Float
one = of_bits binary64 0x3ff0_0000_0000_0000

-- `n as f64`
abbrev pub number : ℕ → Float
number n = of_int binary64 (pos n)

-- numbers that an f64 holds, as each of a list of `f64` is
abbrev pub Held : List Float → Type 0
Held xs = (i : ℕ) → T (fits binary64 (get_or xs i nan))
