-- The normal equations of the paper (doi 10.1109/ICASSP.2000.861820), W^T U^-1 W c = W^T U^-1 mu: which terms belong to them.
-- RULES, Band rows.
use Rattle.std.specs.Prelude.{ℕ, ◌+◌, ◌-◌, ◌*◌, ◌/◌, cond, List, length, get_or, ltb, Float}
use Rattle.std.specs.Float.{binary64}
use Rattle.std.specs.Float.Ieee.{add, mul, eq}
use Rattle.lists.specs.Totals.{total}
use Rattle.lists.specs.Build.{build}
use Rattle.model.specs.Windows.{window_of}
use Rattle.lists.specs.Build.{over}
use Rattle.floats.specs.Numbers.{nought}
use Rattle.region.specs.Rows.{elem}
use Rattle.lists.specs.Parts.{part}
use Rattle.lists.specs.Build.{rows}

-- the paper's W(f, t) of one window, its coefficient for column t in row f: tap number t + half - f where it has that tap, and zero elsewhere
unfoldable pub W : List Float → ℕ → ℕ → Float
W taps f t = cond (ltb (t + length taps / 2) f) nought (get_or taps (t + length taps / 2 - f) nought)

-- RULES, Band rows: a zero tap adds nothing. y with wu c added, unless the tap c is zero
abbrev pub plus_term : Float → Float → Float → Float
plus_term wu c y = cond (eq c nought) y (add binary64 y (mul binary64 wu c))

-- entry (t, s) with frame f's term (W(f, t) u(f)) W(f, s) added
unfoldable pub term : List Float → List Float → ℕ → ℕ → ℕ → Float → Float
unfolding W
term taps ivars t s f y = cond (eq (W taps f t) nought) y (plus_term (mul binary64 (W taps f t) (elem ivars f)) (W taps f s) y)

-- the right side at t with frame f's term (W(f, t) u(f)) mean(f) added
unfoldable pub right_term : List Float → List Float → List Float → ℕ → ℕ → Float → Float
unfolding W
right_term taps ivars means t f y = cond (eq (W taps f t) nought) y (add binary64 y (mul binary64 (mul binary64 (W taps f t) (elem ivars f)) (elem means f)))

-- window i's numbers of a list that has n a window
abbrev pub part_of : ℕ → List Float → ℕ → List Float
part_of n xs i = part (i * n) n xs

-- entry (t, s) of n frames, and the right side at t: windows in order, each over all frames, from +0
unfoldable pub entry_sum : List ℕ → List Float → ℕ → List Float → ℕ → ℕ → Float
unfolding term over total
entry_sum widths coefs n ivars t s = over (λ i. over (term (window_of widths coefs i) (part_of n ivars i) t s) n) (length widths) nought

unfoldable pub right_sum : List ℕ → List Float → ℕ → List Float → List Float → ℕ → Float
unfolding right_term over total
right_sum widths coefs n ivars means t = over (λ i. over (right_term (window_of widths coefs i) (part_of n ivars i) (part_of n means i) t) n) (length widths) nought

-- RULES, Band rows: a column past the end gets nothing. Entry (t, t + j) of the n by n matrix, and +0 where t + j is past its end
unfoldable pub entry_of : List ℕ → List Float → ℕ → List Float → ℕ → ℕ → Float
unfolding entry_sum
entry_of widths coefs n ivars t j = cond (ltb (t + j) n) (entry_sum widths coefs n ivars t (t + j)) nought

-- the rows of the band of width w, and the right side
unfoldable pub band_rows : List ℕ → List Float → ℕ → List Float → ℕ → List Float
unfolding rows build entry_of
band_rows widths coefs n ivars w = rows (λ t. build (entry_of widths coefs n ivars t) w) n

unfoldable pub right_side : List ℕ → List Float → ℕ → List Float → List Float → List Float
unfolding build right_sum
right_side widths coefs n ivars means = build (right_sum widths coefs n ivars means) n
