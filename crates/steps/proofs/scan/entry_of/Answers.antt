use native.Mathlib.Omega.{arith}
use Rattle.lists.proofs.Sums.{get_or-le-total}
use Rattle.steps.specs.Inner.Scores.{key_at}
use Rattle.steps.proofs.scan.entry_of.Goals as goal

pub entry-requires : goal.entry-requires
entry-requires c =
    omega (arith, get_or-le-total c.args.work.now c.args.p, c.requires.ready.small)

pub returns : goal.returns
unfolding key_at
returns c = rw c.entry.ensures
