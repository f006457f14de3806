use native.Mathlib.Omega.{arith}
use Rattle.lists.proofs.Sums.{get_or-le-total}
use Rattle.steps.specs.Inner.Scores.{key_at}
use Rattle.steps.specs.Inner.Pack.{lows}
use Rattle.steps.proofs.Packs.{length-lows}
use Rattle.steps.proofs.tree.entry_at.Goals as goal

pub duration_at-requires : goal.duration_at-requires
duration_at-requires c =
    omega (arith, length-lows c.args.work.now, c.requires.ready.work, c.requires.i_in_bounds, c.place_at-place.ensures)

pub entry-requires : goal.entry-requires
entry-requires c =
    omega (arith, get_or-le-total (lows c.args.work.now) c.place_at-place.result, c.requires.ready.small, c.duration_at.ensures)

pub returns : goal.returns
unfolding key_at
returns c = rw (c.entry.ensures, c.duration_at.ensures, c.place_at-place.ensures)
