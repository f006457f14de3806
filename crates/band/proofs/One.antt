-- Two outcomes that the promise of rows along regions allows are equal.
use mathlib.Core.Path.{◌≡◌, sym, ◌∙◌}
use mathlib.Core.List.{List}
use Prim.Native.Nat.{ℕ}
use lib.Ieee.{Float}
use Rattle.region.specs.declared.Layout.{Layout}
use Rattle.band.specs.Promise.{RowsSay}

pub rows-one : (widths : List ℕ) (coefs : List Float) (g : Layout) (lanes : ℕ) (work x y : List Float) → RowsSay widths coefs g lanes work x → RowsSay widths coefs g lanes work y → x ≡ y
rows-one widths coefs g lanes work x y a b = a.space ∙ sym b.space
