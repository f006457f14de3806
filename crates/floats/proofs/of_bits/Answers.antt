use mathlib.Core.Path.{sym}
use lib.Ieee.{div, of_bits}
use Rattle.floats.proofs.Fields.{nan_pattern, number_pattern, not_of}
use Rattle.floats.proofs.of_bits.Goals as goal

pub returns-then-bits-gt9218868437227405312 : goal.returns-then-bits-gt9218868437227405312
unfolding div of_bits
returns-then-bits-gt9218868437227405312 c = sym (nan_pattern c.args.bits c.if-bits-gt9218868437227405312.true)

pub float_from_bits-result : goal.float_from_bits-result
float_from_bits-result c = not_of (number_pattern c.args.bits c.if-bits-gt9218868437227405312.false)
