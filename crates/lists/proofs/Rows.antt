-- Places in a list of rows, w numbers each.
use mathlib.Core.Path.{◌≡◌, sym, ◌∙◌}
use mathlib.Core.Bool.{true}
use mathlib.Core.Logic.{⊎_elim}
use Prim.Native.Nat.{ℕ, ◌+◌, ◌*◌, ◌/◌, ◌<◌, ◌≤◌}
use native.Mathlib.Nat.{mul-le-mul_right, suc-mul, mul-zero, le-div_iff_mul-le, div-lt_iff_lt-mul}
use native.Mathlib.Omega.{arith}
use borrow.Author.Tests.{le-leb, lt-leb}
use lib.Dec.{leb}
use Rattle.lists.proofs.Numbers.{le_or_lt}

-- a row before row n ends before it
pub row_fits : (w p n : ℕ) → p < n → p * w + w ≤ n * w
row_fits w p n h = omega (arith, mul-le-mul_right w h, suc-mul p w)

-- entry j of a row before row t lies before row t
pub row_in : (w p t j : ℕ) → p < t → j < w → p * w + j < t * w
row_in w p t j h l = omega (arith, row_fits w p t h)

-- so many items of a size fit into a length where the length has that size so often
pub room-none : (count size length : ℕ) → size ≡ 0 → true ≡ leb (count * size) length
room-none count size length e = rw (e, mul-zero) (sym (le-leb 0 length (omega arith)))

pub room-divided : (count size length : ℕ) → (size ≡ 0 → ⊥) → leb count (length / size) ≡ leb (count * size) length
room-divided count size length n =
    let pos : 0 < size = omega arith in
    ⊎_elim
    (λ (h : count * size ≤ length). le-leb count (length / size) ((le-div_iff_mul-le {k = size} {x = count} {y = length} pos).1 h) ∙ sym (le-leb (count * size) length h))
    (λ (h : length < count * size). lt-leb count (length / size) ((div-lt_iff_lt-mul {k = size} {x = length} {y = count} pos).1 h) ∙ sym (lt-leb (count * size) length h))
    (le_or_lt (count * size) length)
