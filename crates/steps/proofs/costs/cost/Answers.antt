use Rattle.steps.proofs.costs.cost.Goals as goal

pub returns : goal.returns
returns c = c.magnitude_bits.ensures
