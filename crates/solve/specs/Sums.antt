-- A difference of floats in a stated order. Every operation is IEEE 754's, rounded once.
use Rattle.std.specs.Prelude.{ℕ, zero, suc, Float}
use Rattle.std.specs.Float.{binary64}
use Rattle.std.specs.Float.Ieee.{sub}

-- RULES, Band rows: the solver's operations in the Rust's order, each rounded once: x less the terms T 0, T 1, .. T (k - 1) in this order
unfoldable pub less : Float → (ℕ → Float) → ℕ → Float
less x T zero = x
less x T (suc k) = sub binary64 (less x T k) (T k)
