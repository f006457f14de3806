use mathlib.Core.Path.{sym, ap, ◌∙◌}
use mathlib.Core.Bool.{Bool}
use lib.ListN.{replicate}
use Rattle.lists.specs.Frames.{count}
use Rattle.lists.proofs.Counts.{count-all, count_none}
use Rattle.voicing.proofs.flags.voiced_in.Goals as goal

pub returns-then-goes_on : goal.returns-then-goes_on
returns-then-goes_on c = let d = c.args.d in sym (count-all d) ∙ ap (λ (b : Bool). count (replicate d b)) (sym c.if-goes_on.true ∙ c.goes_on.ensures)

pub returns-else-goes_on : goal.returns-else-goes_on
returns-else-goes_on c = let d = c.args.d in sym (count_none d) ∙ ap (λ (b : Bool). count (replicate d b)) (sym c.if-goes_on.false ∙ c.goes_on.ensures)
