-- Floats up to the sign of zeros.
use Rattle.std.specs.Prelude.{◌≡◌, Bool, true, false, zero, suc, pos, Float}
use Rattle.std.specs.Float.{nan, inf, fin}

-- x, a zero being +0
abbrev pub plain : Float → Float
plain nan = nan
plain (inf s) = inf s
plain (fin s zero e) = fin false zero (pos zero)
plain (fin s (suc m) e) = fin s (suc m) e

-- RULES, One run alone: equal, zeros of either sign being the same
abbrev pub Same : Float → Float → Type 0
Same x y = plain x ≡ plain y

-- a zero of either sign
abbrev pub Zero : Float → Type 0
Zero x = Same x (fin false zero (pos zero))

-- no zero
abbrev pub nonzero : Float → Bool
nonzero nan = true
nonzero (inf s) = true
nonzero (fin s zero e) = false
nonzero (fin s (suc m) e) = true
