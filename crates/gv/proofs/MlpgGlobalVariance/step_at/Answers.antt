use Rattle.gv.proofs.MlpgGlobalVariance.step_at.Goals as goal

pub returns : goal.returns
returns c = rw (c.next_at.ensures, c.is_switched.ensures)
