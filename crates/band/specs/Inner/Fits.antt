-- What only the contracts of private functions say.
use Rattle.std.specs.Prelude.{ℕ, ◌+◌, ◌*◌, ◌<◌, ◌≤◌, cond, List, length, get_or, ltb, Float}
use Rattle.lists.specs.Totals.{total}
use Rattle.lists.specs.Build.{build}
use Rattle.region.specs.Rows.{elem}

-- row t of an n by n matrix with h done to each entry that lies in it, h s to that of column s
unfoldable pub on_row : ℕ → ℕ → (ℕ → Float → Float) → List Float → List Float
unfolding build
on_row n t h row = build (λ j. cond (ltb (t + j) n) (h (t + j) (elem row j)) (elem row j)) (length row)

-- a set of windows whose rows have width w
pub record Taps (widths : List ℕ) (coefs : List Float) (w : ℕ) : Type 0 where
  pub taps : total widths ≤ length coefs
  pub narrow : (i : ℕ) → i < length widths → get_or widths i 0 ≤ w

-- and its lists over n frames
pub record Fits (widths : List ℕ) (coefs : List Float) (n : ℕ) (ivars means : List Float) (w : ℕ) : Type 0 where
  pub set : Taps widths coefs w
  pub ivars_long : length widths * n ≤ length ivars
  pub means_long : length widths * n ≤ length means
