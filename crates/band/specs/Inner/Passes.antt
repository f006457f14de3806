-- A region's rows and right side, number by number: what passes along the frames do to them.
use Rattle.std.specs.Prelude.{◌≡◌, true, false, cond, ◌⊎◌, List, ℕ, ◌+◌, ◌-◌, ◌*◌, ◌/◌, ◌<◌, ◌≤◌, length, get_or, ltb, leb, Float}
use Rattle.std.specs.Float.{binary64}
use Rattle.std.specs.Float.Ieee.{add, mul, eq}
use Rattle.lists.specs.Build.{over}
use Rattle.lists.specs.Parts.{part}
use Rattle.floats.specs.Numbers.{nought}
use Rattle.model.specs.Windows.{window_of}
use Rattle.region.specs.Rows.{elem}
use Rattle.band.specs.Paper.{plus_term, term, right_term, part_of}
use Rattle.band.specs.declared.passes.Block.{Block}

-- ---- a block of rows

-- other rows of the same band
abbrev pub rows_between : Block → ℕ → ℕ → Block
rows_between b from to = record { rows = b.rows; right = b.right; n = b.n; w = b.w; from = from; to = to }

-- a block's rows are among the band's, and the band and the right side behind it lie within so many numbers
pub record Room (b : Block) (size : ℕ) : Type 0 where
  pub most : b.to ≤ b.n
  pub right-at : b.rows + b.n * b.w ≤ b.right
  pub room : b.right + b.n ≤ size

-- where entry j of row t lies
abbrev pub entry_at : Block → ℕ → ℕ → ℕ
entry_at b t j = b.rows + (t * b.w + j)

-- h, if t is one of the numbers from one to another
abbrev pub within : ℕ → ℕ → ℕ → (Float → Float) → Float → Float
within a e t h y = cond (leb a t) (cond (ltb t e) (h y) y) y

-- f t j done to entry j of each row t of a block, and g t to the right side at t; the other rows, and what is neither a row's nor the right side's, are as they were
pub record Moved (b : Block) (f : ℕ → ℕ → Float → Float) (g : ℕ → Float → Float) (d m : List Float) : Type 0 where
  pub long : length m ≡ length d
  pub others : (i : ℕ) → (i < b.rows) ⊎ (b.right + b.n ≤ i) → elem m i ≡ elem d i
  pub entries : (t j : ℕ) → t < b.n → j < b.w → elem m (entry_at b t j) ≡ within b.from b.to t (f t j) (elem d (entry_at b t j))
  pub sides : (t : ℕ) → t < b.n → elem m (b.right + t) ≡ within b.from b.to t (g t) (elem d (b.right + t))

-- the numbers from one place to another are zero, and all others as they were
pub record Cleared (a e : ℕ) (d m : List Float) : Type 0 where
  pub long : length m ≡ length d
  pub each : (i : ℕ) → elem m i ≡ within a e i (λ y. nought) (elem d i)

-- the same number
abbrev pub still : ℕ → Float → Float
still t y = y

-- h, unless column t + j is past the end
abbrev pub inside : ℕ → ℕ → ℕ → (Float → Float) → Float → Float
inside n t j h y = cond (ltb (t + j) n) (h y) y

-- ---- the terms of one tap, the first of a list, which stands at a frame for each row of a block: those frames' inverse variances and means lie from two places on

-- what the passes over them need
pub record Ready (taps : List Float) (u : ℕ) (b : Block) (size : ℕ) : Type 0 where
  pub some : b.from < b.to
  pub narrow : length taps ≤ b.w
  pub few : length taps ≤ b.n
  pub pairs : u + (b.to - b.from) ≤ b.rows
  pub fit : Room b size

-- entry j of row t, and the right side at t, with the tap's term added
unfoldable pub tap_column : List Float → ℕ → Block → List Float → ℕ → ℕ → Float → Float
tap_column taps u b d t j = inside b.n t j (plus_term (mul binary64 (elem taps 0) (elem d (u + (t - b.from)))) (get_or taps j nought))

unfoldable pub side_of : List Float → ℕ → ℕ → Block → List Float → ℕ → Float → Float
side_of taps u mean b d t y = add binary64 y (mul binary64 (mul binary64 (elem taps 0) (elem d (u + (t - b.from)))) (elem d (mean + (t - b.from))))

-- f t i in the columns i from one to another
abbrev pub in_columns : ℕ → ℕ → (ℕ → ℕ → Float → Float) → ℕ → ℕ → Float → Float
in_columns a e f t i = within a e i (f t i)

-- i is the first place from one on whose tap is not zero, or the end
pub record NextTap (taps : List Float) (from i : ℕ) : Type 0 where
  pub behind : from ≤ i
  pub inside : i ≤ length taps
  pub zeros : (c : ℕ) → c < i → from ≤ c → eq (elem taps c) nought ≡ true
  pub tap : i < length taps → eq (elem taps i) nought ≡ false

-- ---- the taps of one window

-- a window's taps, and the inverse variances and means of its n frames
pub record Window : Type 0 where
  pub taps : List Float
  pub us : List Float
  pub ms : List Float
  pub n : ℕ

-- that whose inverse variances and means are the numbers of d from two places on
abbrev pub window_in : List Float → ℕ → ℕ → ℕ → List Float → Window
window_in taps u mean n d = record { taps = taps; us = part u n d; ms = part mean n d; n = n }

-- h of the frame that row t's tap k stands at, t + half - k, if there is such a frame
abbrev pub at_frame : ℕ → ℕ → ℕ → ℕ → (ℕ → Float → Float) → Float → Float
at_frame half n k t h y = cond (leb k (t + half)) (cond (ltb (t + half - k) n) (h (t + half - k) y) y) y

-- s has the rows t of a block b for which tap k of a window so wide stands at a frame
pub record Stands (width k : ℕ) (b s : Block) : Type 0 where
  pub band : s ≡ rows_between b s.from s.to
  pub inside : (t : ℕ) → s.from ≤ t → t < s.to → (b.from ≤ t) × (t < b.to) × (k ≤ t + width / 2) × (t + width / 2 - k < b.n)
  pub whole : (t : ℕ) → t < b.n → b.from ≤ t → t < b.to → k ≤ t + width / 2 → t + width / 2 - k < b.n → (s.from ≤ t) × (t < s.to)

module _ (x : Window) where
  -- entry j of row t, and the right side at t, with tap k's term added
  unfoldable pub tap_entry : ℕ → ℕ → ℕ → Float → Float
  unfolding term
  tap_entry k t j = inside x.n t j (at_frame (length x.taps / 2) x.n k t (term x.taps x.us t (t + j)))

  unfoldable pub tap_side : ℕ → ℕ → Float → Float
  unfolding right_term
  tap_side k t = at_frame (length x.taps / 2) x.n k t (right_term x.taps x.us x.ms t)

  -- and with all its terms added
  unfoldable pub window_entry : ℕ → ℕ → Float → Float
  unfolding term over
  window_entry t j = inside x.n t j (over (term x.taps x.us t (t + j)) x.n)

  unfoldable pub window_side : ℕ → Float → Float
  unfolding right_term over
  window_side t = over (right_term x.taps x.us x.ms t) x.n

-- ---- all windows

-- a set of windows, and the inverse variances and means of their n frames, window after window
pub record Set : Type 0 where
  pub widths : List ℕ
  pub coefs : List Float
  pub us : List Float
  pub ms : List Float
  pub n : ℕ

-- that whose means are the first numbers of d, and whose inverse variances are the next
abbrev pub set_in : List ℕ → List Float → ℕ → ℕ → List Float → Set
set_in widths coefs ivars n d = record { widths = widths; coefs = coefs; us = part ivars ivars d; ms = part 0 ivars d; n = n }

-- window i of a set
abbrev pub window_at : Set → ℕ → Window
window_at s i = record { taps = window_of s.widths s.coefs i; us = part_of s.n s.us i; ms = part_of s.n s.ms i; n = s.n }

module _ (s : Set) where
  -- entry j of row t, and the right side at t, with the terms of the first i windows added
  unfoldable pub windows_entry : ℕ → ℕ → ℕ → Float → Float
  unfolding term over
  windows_entry i t j = inside s.n t j (over (λ i. over (term (window_at s i).taps (window_at s i).us t (t + j)) s.n) i)

  unfoldable pub windows_side : ℕ → ℕ → Float → Float
  unfolding right_term over
  windows_side i t = over (λ i. over (right_term (window_at s i).taps (window_at s i).us (window_at s i).ms t) s.n) i

  -- and with those of all windows, from nought
  abbrev pub whole_entry : ℕ → ℕ → Float → Float
  whole_entry t j y = windows_entry (length s.widths) t j nought

  abbrev pub whole_side : ℕ → Float → Float
  whole_side t y = windows_side (length s.widths) t nought
