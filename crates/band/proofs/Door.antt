-- The door of the calls along regions: its ways out, and what lies behind it.
use mathlib.Core.Path.{◌≡◌, sym, ◌∙◌}
use mathlib.Core.Bool.{Bool, true, false, not, ◌&&◌}
use mathlib.Core.List.{List}
use Prim.Native.Nat.{ℕ, ◌*◌, ◌^◌, ◌≤◌}
use native.Mathlib.Omega.{arith}
use borrow.Author.Tests.{leb-true, eqb-true, eq-eqb, ne_eqb, not-false}
use lib.Dec.{leb, eqb}
use lib.ListN.{length, take}
use lib.Ieee.{Float}
use Rattle.lists.specs.Totals.{total}
use Rattle.lists.proofs.Sums.{total-whole}
use Rattle.model.specs.Windows.{widths_fit, band_width}
use Rattle.model.proofs.Windows.{and_first, and_second, fit-few, width_in_band}
use Rattle.region.specs.Region.{size_of, region_in, flat}
use Rattle.region.specs.declared.Layout.{Layout}
use Rattle.region.specs.Inner.Passes.{Across}
use Rattle.region.proofs.Flats.{across_is}
use Rattle.band.specs.Promise.{opens, rowed_in, RowsSay}
use Rattle.band.specs.Inner.Fits.{Taps}

-- ---- the ways out, in the order of the tests

module _ (ws : List ℕ) (cs : List Float) (g : Layout) (lanes floats : ℕ) (f : Bool) (fit : f ≡ widths_fit ws) where
  module _ (a : not f ≡ false) (t : ℕ) (summed : t ≡ total (take (2 ^ 32) ws)) where
    fits : widths_fit ws ≡ true
    fits = sym fit ∙ not-false f a

    sum : total ws ≡ t
    sum = sym (summed ∙ total-whole ws (omega (arith, fit-few ws fits)))

    pub shut-taps : (t ≡ length cs → ⊥) → false ≡ opens ws cs g lanes floats
    shut-taps h = rw (fits, sum, ne_eqb (length cs) t (λ e. h (sym e)))

    module _ (b : t ≡ length cs) (k : ℕ) (windows : k ≡ g.windows) where
      module _ (d : length ws ≡ k) (x y : ℕ) (band : x ≡ band_width ws) (wide : y ≡ g.w) where
        pub open_last : x ≡ y → (r : Bool) → r ≡ leb (lanes * size_of g) floats → r ≡ opens ws cs g lanes floats
        open_last h r e = rw (fits, sum, eq-eqb (length cs) t (sym b), eq-eqb (length ws) g.windows (d ∙ windows), eq-eqb (band_width ws) g.w (sym band ∙ h ∙ wide)) e

-- ---- behind the door

module _ (ws : List ℕ) (cs : List Float) (g : Layout) (lanes floats : ℕ) where
  pub record Opened : Type 0 where
    pub windows : length ws ≡ g.windows
    pub set : Taps ws cs g.w
    pub room : lanes * size_of g ≤ floats

  pub opened : opens ws cs g lanes floats ≡ true → Opened
  opened h =
      let e = leb (lanes * size_of g) floats in
      let d = eqb (band_width ws) g.w in
      let c = eqb (length ws) g.windows in
      let b = eqb (length cs) (total ws) in
      let a = widths_fit ws in
      let abcd = and_first (a && b && c && d) e h in
      let abc = and_first (a && b && c) d abcd in
      let wide : band_width ws ≡ g.w = eqb-true (band_width ws) g.w (and_second (a && b && c) d abcd) in
      let whole : length cs ≡ total ws = eqb-true (length cs) (total ws) (and_second a b (and_first (a && b) c abc)) in
      record {
        windows = eqb-true (length ws) g.windows (and_second (a && b) c abc);
        set = record { taps = omega arith; narrow = λ i l. omega (arith, width_in_band ws i) };
        room = leb-true (lanes * size_of g) floats (and_second (a && b && c && d) e h);
      }

-- ---- the call along the regions

module _ (ws : List ℕ) (cs : List Float) (g : Layout) (lanes : ℕ) (work : List Float) where
  pub all-rowed : (work' : List Float) (size : ℕ) → size ≡ size_of g → opens ws cs g lanes (length work) ≡ true
      → Across (λ l b e. e ≡ flat (rowed_in ws cs g (region_in g b))) size lanes work work' → RowsSay ws cs g lanes work work'
  all-rowed work' size e o k = record { space = rw o (across_is g lanes (λ l. rowed_in ws cs g) work (opened ws cs g lanes (length work) o).room work' (rw e at k)) }
