use native.Mathlib.Nat.{mul-le-mul_right}
use native.Mathlib.Omega.{arith}
use Rattle.floats.proofs.Casts.{exact}
use Rattle.gv.proofs.MlpgGlobalVariance.pull.Goals as goal

pub int_to_float-dv : goal.int_to_float-dv
int_to_float-dv c = exact _ (omega (arith, c.requires))

pub overflow_mul-scale : goal.overflow_mul-scale
overflow_mul-scale c = omega (arith, c.requires, mul-le-mul_right c.args.self.length c.requires.1)

pub int_to_float-scale : goal.int_to_float-scale
int_to_float-scale c = exact _ (omega (arith, c.requires, mul-le-mul_right c.args.self.length c.requires.1))

pub int_to_float-spread : goal.int_to_float-spread
int_to_float-spread c = exact _ (omega (arith, c.requires))
