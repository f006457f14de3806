use Rattle.std.proofs.Common.{◌≡◌, drop, max}
use Rattle.lists.specs.Build.{fold_from}
use Rattle.model.specs.Windows.{longest}
use Rattle.model.proofs.voice.window.longest_of.Given as goal

abbrev pub invariant-loop-width : goal.invariant-loop-width
invariant-loop-width l = fold_from max l.found (drop l.width-index l.widths) ≡ longest l.widths
