use Rattle.houses.proofs.Commons.{row_put}
use Rattle.houses.proofs.starting.put_row.Goals as goal

pub returns : goal.returns
returns c =
    row_put _ _ c.args.slot c.args.length _ _ _ _ _ _ _ c.requires.0.there c.requires.1 c.part-row.ensures.numbers c.part.ensures.numbers c.total_u32-before.ensures c.total_u32-count.ensures c.part-taps.ensures.numbers c.put_set.ensures
