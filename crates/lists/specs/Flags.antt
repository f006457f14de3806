-- Yes and no as numbers.
use Rattle.std.specs.Prelude.{Bool, true, false, ℕ, zero, suc}

-- RULES, Forms: a yes or no as a number, 1 or 0
abbrev pub flag : Bool → ℕ
flag true = 1
flag false = 0

-- and back: 0 is no, and anything else yes
abbrev pub is_on : ℕ → Bool
is_on zero = false
is_on (suc n) = true
