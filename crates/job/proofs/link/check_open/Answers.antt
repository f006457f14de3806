use mathlib.Core.Path.{sym, ◌∙◌}
use Rattle.job.proofs.Memory.{ended_11}
use Rattle.job.proofs.LinkWays.{as_begin}
use Rattle.job.proofs.link.check_open.Goals as goal

pub returns-then-has_ended : goal.returns-then-has_ended
returns-then-has_ended c = sym (ended_11 _ (sym c.has_ended.ensures ∙ c.if-has_ended.true))

pub returns : goal.returns
returns c = as_begin _ _ (sym c.has_ended.ensures ∙ c.if-has_ended.false) c.check_begin.ensures
