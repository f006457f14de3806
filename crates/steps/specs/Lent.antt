-- States as src/ lends them.
use Rattle.steps.specs.declared.States.{States as Lent}
use Rattle.steps.specs.Steps.{States, states}

-- the lists of states that are lent
abbrev pub lent : Lent → States
lent ss = states ss.means.now ss.varis.now ss.shortest.now
