use mathlib.Core.Path.{sym}
use lib.Ieee.{div, of_bits}
use Rattle.floats.proofs.Fields.{is-nan}
use Rattle.floats.proofs.one_nan.Goals as goal

pub returns-then-x : goal.returns-then-x
unfolding div of_bits
returns-then-x c = sym (is-nan c.args.x c.if-x.true)
