use mathlib.Core.Path.{sym, ap, ◌∙◌}
use Rattle.model.specs.Weight.{voiced_at}
use Rattle.runs.proofs.Findings.{turns_voiced, turns_unvoiced}
use Rattle.runs.proofs.finding.turns.Goals as goal

pub returns-then-voiced : goal.returns-then-voiced
returns-then-voiced c = turns_voiced _ _ _ c.if-frames-eq0.false (sym (c.voiced.ensures ∙ ap (voiced_at _) c.msd.ensures) ∙ c.if-voiced.true)

pub returns : goal.returns
returns c = turns_unvoiced _ _ _ c.if-frames-eq0.false (sym (c.voiced.ensures ∙ ap (voiced_at _) c.msd.ensures) ∙ c.if-voiced.false)
