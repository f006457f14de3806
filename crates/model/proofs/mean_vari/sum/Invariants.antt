use Rattle.std.proofs.Common.{◌≡◌, length, drop}
use Rattle.lists.specs.Build.{fold_from}
use Rattle.model.specs.Pair.{plus, pairs_of, sum_of}
use Rattle.model.proofs.mean_vari.sum.Given as goal

abbrev pub invariant-loop-mean : goal.invariant-loop-mean
invariant-loop-mean l = fold_from plus l.total (drop (length l.yielded) (pairs_of l.means l.varis)) ≡ sum_of l.means l.varis
