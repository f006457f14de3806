-- The band is enough: its rows hold every term of the paper's sum, since nothing is that many columns away or further.
use mathlib.Core.Path.{◌≡◌}
use mathlib.Core.List.{List}
use mathlib.Core.Logic.{⊎_elim}
use Prim.Native.Nat.{ℕ, ◌+◌, ◌/◌, ◌<◌, ◌≤◌}
use native.Mathlib.Omega.{arith}
use lib.ListN.{length, length-take}
use lib.Ieee.{Float, eq}
use Rattle.lists.proofs.Numbers.{le_or_lt}
use Rattle.floats.specs.Numbers.{nought}
use Rattle.model.specs.Windows.{band_width, window_of}
use Rattle.model.proofs.Windows.{width_in_band}
use Rattle.lists.specs.Build.{over}
use Rattle.band.specs.Paper.{W, term, part_of, entry_sum}
use Rattle.lists.proofs.Orders.{over-idle}
use Rattle.band.proofs.Terms.{either_way, eq-nought, W-beyond, W-short}

-- a window that doesn't reach from column t to column s: no frame has a tap for both
module _ (taps ivars : List Float) (t s : ℕ) (far : t + length taps ≤ s) where
  term-far : (f : ℕ) (y : Float) → term taps ivars t s f y ≡ y
  unfolding term
  term-far f y = ⊎_elim
      (λ (l : f ≤ t + length taps / 2). rw (W-short taps s f (omega arith) (omega arith), eq-nought) (either_way (eq (W taps f t) nought) y))
      (λ (l : t + length taps / 2 < f). rw (W-beyond taps t f l, eq-nought))
      (le_or_lt f (t + length taps / 2))

  window-far : (n : ℕ) (y : Float) → over (term taps ivars t s) n y ≡ y
  unfolding over
  window-far n y = over-idle (term taps ivars t s) 0 n y (omega arith) (λ f z g h. term-far f z)

-- the band's own width is enough, whatever the windows
module _ (widths : List ℕ) (coefs : List Float) (n : ℕ) (ivars : List Float) (t s : ℕ) (far : t + band_width widths ≤ s) where
  pub band-enough : entry_sum widths coefs n ivars t s ≡ nought
  unfolding entry_sum over
  band-enough = over-idle (λ i. over (term (window_of widths coefs i) (part_of n ivars i) t s) n) 0 (length widths) nought (omega arith)
      (λ i y g h. window-far (window_of widths coefs i) (part_of n ivars i) t s (simp length-take (omega (arith, width_in_band widths i))) n y)
