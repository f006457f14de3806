use native.Mathlib.Omega.{arith}
use Rattle.lists.specs.Bytes.{Bytes}
use Rattle.lists.proofs.Spelled.{some_below}
use Rattle.lists.proofs.cut_u32.Goals as goal

pub overflow_cast-result : goal.overflow_cast-result
overflow_cast-result c =
    let a = c.args in
    let b : Bytes a.bytes.now = λ i. omega (arith, c.type_inv.bytes i) in
    record { fits = omega (arith, c.little_endian.ensures, some_below a.bytes.now b a.at 4) }
