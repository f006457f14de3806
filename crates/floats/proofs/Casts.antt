-- Whole numbers as floats.
use Prim.Native.Nat.{ℕ, ◌≤◌}
use lib.Dec.{T, le→leb}
use lib.IntN.{pos}
use lib.Ieee.{binary64, in_float}

-- a whole number up to 2 ^ 53 is a float
pub exact : (n : ℕ) → n ≤ 9007199254740992 → T (in_float binary64 (pos n))
unfolding in_float
exact n h = le→leb n 9007199254740992 h
