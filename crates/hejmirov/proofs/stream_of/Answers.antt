use Rattle.hejmirov.proofs.stream_of.Goals as goal

pub returns : goal.returns
returns c = rw (← c.variance_of.ensures)
