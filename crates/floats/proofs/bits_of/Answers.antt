use mathlib.Core.Path.{sym, ap}
use lib.Ieee.{binary64, to_bits}
use Rattle.floats.proofs.Fields.{is-nan, no_nan, not_of}
use Rattle.floats.proofs.bits_of.Goals as goal

pub returns-then-x : goal.returns-then-x
unfolding to_bits
returns-then-x c = ap (to_bits binary64) (sym (is-nan c.args.x c.if-x.true))

pub float_to_bits-result : goal.float_to_bits-result
float_to_bits-result c = not_of (no_nan c.args.x c.if-x.false)
