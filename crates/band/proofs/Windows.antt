-- Laws of a row that is built window by window and frame by frame: only the frames that a window's taps reach have a term.
use mathlib.Core.Path.{◌≡◌, refl, sym, ap, ◌∙◌}
use mathlib.Core.List.{List}
use Prim.Native.Nat.{ℕ, ◌+◌, ◌-◌, ◌*◌, ◌/◌, ◌<◌, ◌≤◌, min}
use native.Mathlib.Numerals.{add-one}
use native.Mathlib.Omega.{arith}
use lib.ListN.{length, get_or, take, drop, replicate, length-replicate, get_or-replicate, take-append-drop}
use lib.Ieee.{Float, nan}
use Rattle.lists.specs.Totals.{total}
use Rattle.lists.specs.Build.{build}
use Rattle.model.specs.Windows.{window_of}
use Rattle.lists.proofs.Sums.{total-append, total-more}
use Rattle.lists.proofs.Rows.{row_fits}
use Rattle.lists.specs.Build.{over}
use Rattle.floats.specs.Numbers.{nought}
use Rattle.lists.specs.Parts.{part}
use Rattle.band.specs.Paper.{term, right_term, part_of, entry_sum, right_sum, entry_of}
use Rattle.band.specs.Inner.Fits.{on_row, Taps, Fits}
use Rattle.lists.proofs.Builds.{build-same}
use Rattle.band.proofs.Terms.{on_row-idle, on_row-same, on_row-then, frames-before, frames-behind, term-idle, right-idle}

-- ---- one window, over the frames from `first` to `end`

module _ (taps ivars means : List Float) (t : ℕ) where
  abbrev last : ℕ
  last = t + length taps / 2 + 1

  abbrev entries : ℕ → ℕ → Float → Float
  entries f s = over (term taps ivars t s) f

  abbrev rights : ℕ → Float → Float
  rights f = over (right_term taps ivars means t) f

  -- the row and the right side after the frames below f
  pub record Added (row₀ : List Float) (right : Float) (f : ℕ) (row : List Float) (sum : Float) : Type 0 where
    pub row_so : row ≡ on_row (length ivars) t (entries f) row₀
    pub sum_so : sum ≡ rights f right

  pub added-first : (row : List Float) (right : Float) (f : ℕ) → f ≡ last - min (length taps) last → Added row right f row right
  unfolding over
  added-first row right f e = record {
    row_so = on_row-idle (length ivars) t (entries f) row (λ s y. frames-before taps t (term taps ivars t s) (λ f z o. term-idle taps ivars means t f o s z) f y (omega arith));
    sum_so = sym (frames-before taps t (right_term taps ivars means t) (λ f z o. right-idle taps ivars means t f o z) f right (omega arith));
  }

  pub added_next : (row₀ row row' : List Float) (right sum sum' : Float) (f : ℕ) → Added row₀ right f row sum
      → row' ≡ on_row (length ivars) t (λ s. term taps ivars t s f) row → sum' ≡ right_term taps ivars means t f sum → Added row₀ right (f + 1) row' sum'
  unfolding over
  added_next row₀ row row' right sum sum' f k e x = record {
    row_so = rw (e, k.row_so, on_row-then (length ivars) t (entries f) (λ s. term taps ivars t s f) row₀, add-one);
    sum_so = rw (x, k.sum_so, add-one);
  }

  pub added-last : (row₀ row : List Float) (right sum : Float) (f : ℕ) → f ≡ min (length ivars) last → Added row₀ right f row sum → Added row₀ right (length ivars) row sum
  added-last row₀ row right sum f e k = record {
    row_so = k.row_so ∙ on_row-same (length ivars) t (entries f) (entries (length ivars)) row₀ (λ s y. sym (frames-behind taps t (term taps ivars t s) (λ f z o. term-idle taps ivars means t f o s z) (length ivars) f y e));
    sum_so = k.sum_so ∙ sym (frames-behind taps t (right_term taps ivars means t) (λ f z o. right-idle taps ivars means t f o z) (length ivars) f right e);
  }

-- ---- all windows

-- window i's taps lie within the list
pub taps_in : (widths : List ℕ) (coefs : List Float) (w : ℕ) → Taps widths coefs w → (i : ℕ) → i < length widths → total (take i widths) + get_or widths i 0 ≤ length coefs
taps_in widths coefs w k i h = omega (arith, k.taps, total-more widths i h, total-append (take (i + 1) widths) (drop (i + 1) widths), ap total (take-append-drop (i + 1) widths))

module _ (widths : List ℕ) (coefs : List Float) (n : ℕ) (ivars means : List Float) (w : ℕ) (k : Fits widths coefs n ivars means w) (i : ℕ) (h : i < length widths) where
  -- and so do its frames' numbers
  pub ivars-fit : i * n + n ≤ length ivars
  ivars-fit = omega (arith, k.ivars_long, row_fits n i (length widths) h)

module _ (widths : List ℕ) (coefs : List Float) (n : ℕ) (ivars means : List Float) (t w : ℕ) where
  abbrev window : ℕ → ℕ → Float → Float
  window s i = over (term (window_of widths coefs i) (part_of n ivars i) t s) n

  abbrev side : ℕ → Float → Float
  side i = over (right_term (window_of widths coefs i) (part_of n ivars i) (part_of n means i) t) n

  -- the row and the right side after i windows
  pub record Windowed (i : ℕ) (row : List Float) (right : Float) : Type 0 where
    pub row_so : row ≡ on_row n t (λ s. over (window s) i) (replicate w nought)
    pub right_so : right ≡ over side i nought

  pub windowed_none : (row : List Float) → row ≡ replicate w nought → Windowed 0 row nought
  unfolding over
  windowed_none row e = record {
    row_so = e ∙ on_row-idle n t (λ s y. y) (replicate w nought) (λ s y. refl);
    right_so = refl;
  }

  pub windowed_next : (i m : ℕ) (o b : ℕ) (taps us ms row row' : List Float) (right right' : Float) → Windowed i row right
      → o ≡ total (take i widths) → b ≡ i * n → m ≡ get_or widths i 0 → taps ≡ part o m coefs → us ≡ part b n ivars → ms ≡ part b n means → length us ≡ n
      → row' ≡ on_row (length us) t (λ s. over (term taps us t s) (length us)) row → right' ≡ over (right_term taps us ms t) (length us) right
      → Windowed (i + 1) row' right'
  unfolding over
  windowed_next i m o b taps us ms row row' right right' k eo eb em et eu es len er ex = record {
    row_so = rw (er, len, et, eu, eo, eb, em, k.row_so, on_row-then n t (λ s. over (window s) i) (λ s. window s i) (replicate w nought), add-one);
    right_so = rw (ex, len, et, eu, es, eo, eb, em, k.right_so, add-one);
  }

  pub windowed_all : (row : List Float) (right : Float) → Windowed (length widths) row right
      → (row ≡ build (entry_of widths coefs n ivars t) w) × (right ≡ right_sum widths coefs n ivars means t)
  unfolding on_row entry_of entry_sum right_sum
  windowed_all row right k = (k.row_so ∙ rw (length-replicate w nought) (build-same _ _ w (λ j l. rw (get_or-replicate w j nought nan l))), k.right_so)
