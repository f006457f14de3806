-- What row t + 2 of width 3 is read from: its own row at a, its right side at x, the factors of rows t and t + 1 at f, and their values at v.
use Rattle.std.specs.Prelude.{ℕ, ◌+◌, List, Float}
use Rattle.std.specs.Float.{binary64}
use Rattle.std.specs.Float.Ieee.{sub, mul}
use Rattle.region.specs.Rows.{elem}

module _ (m : List Float) where
  -- its pivot
  abbrev pub pivot_three : ℕ → ℕ → Float
  pivot_three a f = sub binary64 (sub binary64 (elem m a) (mul binary64 (mul binary64 (elem m (f + 4)) (elem m (f + 4))) (elem m (f + 3)))) (mul binary64 (mul binary64 (elem m (f + 2)) (elem m (f + 2))) (elem m f))

  -- the number behind it, which the pivot divides
  abbrev pub second_three : ℕ → ℕ → Float
  second_three a f = sub binary64 (elem m (a + 1)) (mul binary64 (mul binary64 (elem m (f + 4)) (elem m (f + 5))) (elem m (f + 3)))

  -- its value put forward
  abbrev pub forward_three : ℕ → ℕ → ℕ → Float
  forward_three x f v = sub binary64 (sub binary64 (elem m x) (mul binary64 (elem m (f + 4)) (elem m (v + 1)))) (mul binary64 (elem m (f + 2)) (elem m v))
