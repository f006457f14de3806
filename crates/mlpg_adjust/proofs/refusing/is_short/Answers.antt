use native.Mathlib.Omega.{arith}
use native.Mathlib.Nat.{mul-le-mul_left}
use Rattle.mlpg_adjust.proofs.refusing.is_short.Goals as goal

pub overflow_mul-result : goal.overflow_mul-result
overflow_mul-result c = omega (arith, c.requires.1, mul-le-mul_left c.args.frames c.requires.0)
