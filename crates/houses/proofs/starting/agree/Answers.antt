use Prim.Native.Nat.{◌≤◌}
use native.Mathlib.Omega.{arith}
use Rattle.houses.proofs.Commons.{agree_as}
use Rattle.houses.proofs.starting.agree.Goals as goal
use Rattle.houses.proofs.starting.agree.Goals.{After-row_length-length}

-- no row has more than four numbers
module _ (c : After-row_length-length) where
  narrow : c.row_length-length.result ≤ 4
  narrow = omega (arith, c.row_length-length.ensures, c.requires.1)

pub returns : goal.returns
returns c =
    let a = c.args in
    agree_as a.common.count _ a.common.widths.now a.common.coefficients.now c.row_length-length.ensures _ c.requires.0 (narrow (goal.at.returns c).After-row_length-length) c.if-common-length.false c.total_u32.ensures
