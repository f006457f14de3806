-- Window sets: how long each window is, and the coefficients in one list, window after window.
use Rattle.std.specs.Prelude.{List, [], ◌∷◌, Bool, true, false, ◌&&◌, cond, ℕ, ◌+◌, ◌-◌, ◌*◌, ◌/◌, max, length, take, drop, get_or, leb, eqb, Float}
use Rattle.std.specs.Float.{nan, inf, fin}
use Rattle.lists.specs.Sizes.{most_windows, most_taps}
use Rattle.lists.specs.Totals.{total}
use Rattle.lists.specs.Build.{fold_from}
use Rattle.lists.specs.Refusals.{or_else}

-- low ≤ n ≤ high
abbrev pub between : ℕ → ℕ → ℕ → Bool
between low high n = leb low n && leb n high

-- a test holds of every item
unfoldable pub all_of : {A : Type 0} → (A → Bool) → List A → Bool
all_of p [] = true
all_of p (x ∷ xs) = p x && all_of p xs

-- RULES, Sizes: a set has 1 to 4 windows, and each 1 to 15 coefficients
unfoldable pub widths_fit : List ℕ → Bool
unfolding all_of
widths_fit widths = between 1 most_windows (length widths) && all_of (between 1 most_taps) widths

-- neither infinite nor NaN
unfoldable pub finite : Float → Bool
finite nan = false
finite (inf s) = false
finite (fin s m e) = true

-- RULES, Refusals: what 2 asks of the coefficients
unfoldable pub all_finite : List Float → Bool
unfolding all_of finite
all_finite coefficients = all_of finite coefficients

-- RULES, Refusals: 1, 2 and 4, the smallest that applies, and 0 for none
unfoldable pub window_refusal : List ℕ → List Float → ℕ
unfolding total widths_fit all_finite
window_refusal widths coefficients =
    or_else (cond (widths_fit widths) 0 1) (or_else (cond (all_finite coefficients) 0 2) (cond (eqb (length coefficients) (total widths)) 0 4))

-- the longest window's length
unfoldable pub longest : List ℕ → ℕ
unfolding fold_from
longest widths = fold_from max 0 widths

-- RULES, Band rows: half of the longest window, rounded down
abbrev pub max_width : List ℕ → ℕ
max_width widths = longest widths / 2

-- RULES, Band rows: the width of the band is twice that, and 1
abbrev pub band_width : List ℕ → ℕ
band_width widths = 2 * max_width widths + 1

-- RULES, Mask: half of the window's length, rounded down
abbrev pub left_width : ℕ → ℕ
left_width width = width / 2

-- RULES, Mask: the length less that half, less 1
abbrev pub right_width : ℕ → ℕ
right_width width = width - left_width width - 1

-- window i's length, and 0 past the last
abbrev pub width_of : List ℕ → ℕ → ℕ
width_of widths i = get_or widths i 0

-- the coefficients before window i's
abbrev pub window_start : List ℕ → ℕ → ℕ
window_start widths i = total (take i widths)

-- window i's coefficients
abbrev pub window_of : List ℕ → List Float → ℕ → List Float
window_of widths coefficients i = take (width_of widths i) (drop (window_start widths i) coefficients)
