use native.Mathlib.Nat.{mul-le-mul_right}
use native.Mathlib.Omega.{arith}
use Rattle.floats.proofs.Casts.{exact}
use Rattle.gv.proofs.objective.weight_of.Goals as goal

pub overflow_mul-result : goal.overflow_mul-result
overflow_mul-result c = omega (arith, mul-le-mul_right c.args.n c.requires.0)

pub int_to_float-result : goal.int_to_float-result
int_to_float-result c = exact _ (omega (arith, mul-le-mul_right c.args.n c.requires.0))
