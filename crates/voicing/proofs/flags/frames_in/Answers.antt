use mathlib.Core.Path.{◌∙◌}
use native.Mathlib.Omega.{arith}
use Rattle.lists.proofs.Sums.{total-whole}
use Rattle.voicing.proofs.flags.frames_in.Goals as goal

pub returns : goal.returns
returns c = c.total_u32.ensures ∙ total-whole _ (omega (arith, c.requires))
