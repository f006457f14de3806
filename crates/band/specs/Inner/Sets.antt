-- What the values of `row` and `passes` stand for.
use Rattle.std.specs.Prelude.{ℕ, ◌+◌, ◌≤◌, List, length, Float}
use Rattle.lists.specs.Build.{build}
use Rattle.band.specs.Paper.{term, right_term, entry_of, right_sum}
use Rattle.band.specs.Inner.Fits.{Fits}
use Rattle.band.specs.Inner.Passes as pass
use Rattle.band.specs.Inner.Passes.{Ready, Room, tap_column, side_of, window_in, set_in}
use Rattle.band.specs.declared.WindowSet.{WindowSet}
use Rattle.band.specs.declared.passes.Pass.{Pass}
use Rattle.band.specs.declared.row.Window.{Window}
use Rattle.band.specs.declared.row.Pairs.{Pairs}

-- entry (t, s) with frame f's term of a window added, and the right side at t
abbrev pub term_in : Window → ℕ → ℕ → ℕ → Float → Float
term_in x t s = term x.taps.now x.ivars.now t s

abbrev pub right_in : Window → ℕ → ℕ → Float → Float
right_in x t = right_term x.taps.now x.ivars.now x.means.now t

-- a window's frames
abbrev pub frames : Window → ℕ
frames x = length x.ivars.now

-- pairs of windows whose rows have width w
abbrev pub Fitting : Pairs → ℕ → Type 0
Fitting s w = Fits s.windows.widths.now s.windows.coefficients.now s.n s.ivars.now s.means.now w

-- their row t, and the right side at t
abbrev pub row_in : Pairs → ℕ → ℕ → List Float
row_in s w t = build (entry_of s.windows.widths.now s.windows.coefficients.now s.n s.ivars.now t) w

abbrev pub side_in : Pairs → ℕ → Float
side_in s t = right_sum s.windows.widths.now s.windows.coefficients.now s.n s.ivars.now s.means.now t

-- what the passes over a tap's terms need
abbrev pub readied : Pass → ℕ → Type 0
readied p size = Ready p.taps.now p.u p.b size

-- and those over a window's taps
abbrev pub passes : Pass → ℕ → Type 0
passes p size = (length p.taps.now ≤ p.b.w) × (p.u + p.b.n ≤ p.b.rows) × (p.mean + p.b.n ≤ p.b.rows) × Room p.b size

-- entry j of row t, and the right side at t, with the first tap's term added
abbrev pub column_of : Pass → List Float → ℕ → ℕ → Float → Float
column_of p = tap_column p.taps.now p.u p.b

abbrev pub side_of_pass : Pass → List Float → ℕ → Float → Float
side_of_pass p = side_of p.taps.now p.u p.mean p.b

-- the window whose taps these are
abbrev pub window_of_pass : Pass → List Float → pass.Window
window_of_pass p d = window_in p.taps.now p.u p.mean p.b.n d

-- a set whose pairs are the first numbers of d
abbrev pub set_at : WindowSet → ℕ → ℕ → List Float → pass.Set
set_at s ivars n d = set_in s.widths.now s.coefficients.now ivars n d
