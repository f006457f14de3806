-- Where a number first stands in a list, and a list in which another stands instead.
use Rattle.std.specs.Prelude.{cond, List, [], ◌∷◌, map, ℕ, suc, eqb}

-- the place of the first of these numbers that is v, or their length where none is
unfoldable pub first_at : ℕ → List ℕ → ℕ
first_at v [] = 0
first_at v (x ∷ xs) = cond (eqb x v) 0 (suc (first_at v xs))

-- a number, or where it is old the new one
abbrev pub instead : ℕ → ℕ → ℕ → ℕ
instead old new x = cond (eqb x old) new x

-- and so each of a list
unfoldable pub replaced : ℕ → ℕ → List ℕ → List ℕ
replaced old new xs = map (instead old new) xs
