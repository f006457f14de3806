use mathlib.Core.Path.{refl}
use Rattle.gv.proofs.gradient.add_row.Goals as goal

pub returns : goal.returns
returns c = (refl, rw c.hmm_term-term.ensures)
