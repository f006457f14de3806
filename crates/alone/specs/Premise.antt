-- What the claim on one run asks of its equations, solved by themselves.
use Rattle.std.specs.Prelude.{ℕ, ◌<◌, List, T, length, Float}
use Rattle.std.specs.Float.Ieee.Scale.{finite}
use Rattle.floats.specs.Signs.{nonzero}
use Rattle.region.specs.Rows.{elem, entry}
use Rattle.solve.specs.Solve.{factor, solution}

-- divisor t in solving the rows a, of width w, and their right side r
abbrev pub divisor : ℕ → List Float → List Float → ℕ → Float
divisor w a r t = entry w (factor w a (length r)) t 0

-- RULES, One run alone: the numbers that arise are finite, and no divisor is zero. Divisors and values are enough: what is not finite before them stays so
pub record Sound (w : ℕ) (a r : List Float) : Type 0 where
  pub finite_divisors : (t : ℕ) → t < length r → T (finite (divisor w a r t))
  pub divisors : (t : ℕ) → t < length r → T (nonzero (divisor w a r t))
  pub values : (t : ℕ) → t < length r → T (finite (elem (solution w a r) t))
