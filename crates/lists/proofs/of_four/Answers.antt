use native.Mathlib.Omega.{arith}
use Rattle.lists.specs.Bytes.{little}
use Rattle.lists.proofs.of_four.Goals as goal

pub returns : goal.returns
unfolding little
returns c = omega arith
