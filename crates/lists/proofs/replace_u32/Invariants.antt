use Rattle.lists.proofs.Firsts.{Replacing}
use Rattle.lists.proofs.replace_u32.Given as goal

abbrev pub invariant-loop-number : goal.invariant-loop-number
invariant-loop-number l = Replacing l.old l.new l.fn.s l.number-items l.number-index
