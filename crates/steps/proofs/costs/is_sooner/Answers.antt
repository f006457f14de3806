use Rattle.steps.proofs.Order.{score_tie, score_key}
use Rattle.steps.proofs.costs.is_sooner.Goals as goal

pub returns-then-a-b : goal.returns-then-a-b
returns-then-a-b c = score_tie _ _ _ _ c.if-a-b.true

pub returns : goal.returns
returns c = score_key _ _ _ _ c.if-a-b.false c.requires.0 c.requires.1
