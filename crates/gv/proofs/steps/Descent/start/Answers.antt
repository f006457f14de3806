use mathlib.Core.Path.{refl}
use lib.Ieee.{div, of_bits}
use Rattle.gv.proofs.steps.Descent.start.Goals as goal

pub returns : goal.returns
unfolding div of_bits
returns c = (refl, refl)
