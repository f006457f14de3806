use mathlib.Core.Path.{◌∙◌}
use lib.Ieee.{le, of_bits}
use Rattle.floats.proofs.Whole.{when_large}
use Rattle.floats.proofs.within.Goals as goal

pub returns : goal.returns
unfolding le of_bits
returns c =
    let y = c.at_least_one-y in
    (when_large y.result y.ensures.1 c.if-y.false ∙ y.ensures.0, tt, tt)
