-- A duration and a node's place in one number of 32 bits: the duration is the low 17 bits, the place the bits above.
use Rattle.std.specs.Prelude.{List, map, ℕ, ◌/◌, ◌%◌}

-- 2 ^ 17
abbrev pub width : ℕ
width = 131072

unfoldable pub lows : List ℕ → List ℕ
lows w = map (λ (x : ℕ). x % width) w

unfoldable pub highs : List ℕ → List ℕ
highs w = map (λ (x : ℕ). x / width) w
