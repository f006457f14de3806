-- The band system's factors A = L D L^T and its solution, by `ldl_factorization` and `substitutions` of `mlpg.rs`.
use Rattle.std.specs.Prelude.{ℕ, zero, suc, ◌+◌, ◌-◌, min, List, [], ◌∷◌, ◌++◌, length, Float}
use Rattle.std.specs.Float.{binary64}
use Rattle.std.specs.Float.Ieee.{mul, div}
use Rattle.lists.specs.Build.{build}
use Rattle.solve.specs.Sums.{less}
use Rattle.region.specs.Rows.{elem, entry, row}

-- `width.min(t + 1)`: how many of the t rows before a row reach it
abbrev pub reach : ℕ → ℕ → ℕ
reach w t = min (w - 1) t

-- ---- the factors: row t has D's number at 0 and L's at 1, 2, .., from the rows f before it, the nearest first

-- what the row that is k + 1 before row t takes off its entry i
abbrev pub factor_term : ℕ → List Float → ℕ → ℕ → ℕ → Float
factor_term w f t i k =
    mul binary64 (mul binary64 (entry w f (t - (k + 1)) (k + 1)) (entry w f (t - (k + 1)) (i + (k + 1)))) (entry w f (t - (k + 1)) 0)

-- x, entry i of A's row t, less what the rows before it account for
abbrev pub reduced : ℕ → Float → List Float → ℕ → ℕ → Float
reduced w x f t i = less x (factor_term w f t i) (reach (w - i) t)

-- entry i of row t, from A's row a
unfoldable pub factor_at : ℕ → List Float → List Float → ℕ → ℕ → Float
unfolding less
factor_at w a f t zero = reduced w (elem a 0) f t 0
factor_at w a f t (suc i) = div binary64 (reduced w (elem a (suc i)) f t (suc i)) (reduced w (elem a 0) f t 0)

-- the first t rows
unfoldable pub factor : ℕ → List Float → ℕ → List Float
unfolding factor_at build
factor w a zero = []
factor w a (suc t) = let f = factor w a t in f ++ build (factor_at w (row w a t) f t) w

-- ---- forward substitution: L g = r

-- what the value that is k + 1 before t takes off
abbrev pub forward_term : ℕ → List Float → List Float → ℕ → ℕ → Float
forward_term w f g t k = mul binary64 (entry w f (t - (k + 1)) (k + 1)) (elem g (t - (k + 1)))

-- the value at t: x is the right side there, g the values before it
abbrev pub forward_at : ℕ → List Float → Float → List Float → ℕ → Float
forward_at w f x g t = less x (forward_term w f g t) (reach w t)

-- the first t values
unfoldable pub forward : ℕ → List Float → List Float → ℕ → List Float
unfolding less
forward w f r zero = []
forward w f r (suc t) = let g = forward w f r t in g ++ (forward_at w f (elem r t) g t ∷ [])

-- ---- backward substitution: D L^T c = g

-- what value k of those after t takes off
abbrev pub backward_term : ℕ → List Float → List Float → ℕ → ℕ → Float
backward_term w f c t k = mul binary64 (entry w f t (k + 1)) (elem c k)

-- the value at t: x is g's value there, c the values after it
abbrev pub backward_at : ℕ → List Float → Float → List Float → ℕ → Float
backward_at w f x c t = less (div binary64 x (entry w f t 0)) (backward_term w f c t) (reach w (length c))

-- the values from t on, from g's there
unfoldable pub backward : ℕ → List Float → ℕ → List Float → List Float
unfolding less
backward w f t [] = []
backward w f t (x ∷ xs) = let c = backward w f (suc t) xs in backward_at w f x c t ∷ c

-- ---- both

-- `solve`: the values c of A c = r, as many as r has
unfoldable pub solution : ℕ → List Float → List Float → List Float
unfolding factor forward backward
solution w a r = let f = factor w a (length r) in backward w f 0 (forward w f r (length r))
