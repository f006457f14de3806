use mathlib.Core.Path.{sym, ◌∙◌, subst}
use Prim.Native.Nat.{◌/◌, ◌^◌, ◌≤◌}
use native.Mathlib.Omega.{arith}
use lib.Dec.{T}
use lib.Ieee.{Float, binary64, fits, to_bits}
use Rattle.floats.proofs.Whole.{field_from, field_to, at_most, when_inside}
use Rattle.floats.proofs.rounded.Goals as goal
use Rattle.floats.proofs.rounded.Goals.{After-within-bits}

module _ (c : After-within-bits) where
  abbrev y : Float
  y = c.within-bits.result

  held : T (fits binary64 y)
  held = subst T (sym c.within-bits.type_inv) tt

  from : 1023 ≤ to_bits binary64 y / 2 ^ 52
  from = field_from y held c.within-bits.ensures.1 c.within-bits.ensures.2

  to : to_bits binary64 y / 2 ^ 52 ≤ 1039
  to = field_to y held c.within-bits.ensures.1 c.within-bits.ensures.2

pub overflow_sub-bits : goal.overflow_sub-bits
overflow_sub-bits c = from (goal.at.overflow_sub-bits c).After-within-bits

pub without_fraction-requires : goal.without_fraction-requires
without_fraction-requires c = (omega arith, omega (arith, to (goal.at.without_fraction-requires c).After-within-bits))

pub overflow_cast-result : goal.overflow_cast-result
overflow_cast-result c =
    let w = c.within-bits in
    omega (arith, c.without_fraction.ensures, at_most (y (goal.at.overflow_cast-result c).After-within-bits) (held (goal.at.overflow_cast-result c).After-within-bits) w.ensures.1 w.ensures.2)

pub returns : goal.returns
returns c =
    let w = c.within-bits in
    c.without_fraction.ensures ∙ when_inside (y (goal.at.returns c).After-within-bits) (held (goal.at.returns c).After-within-bits) w.ensures.1 w.ensures.2 ∙ w.ensures.0
