use Rattle.std.proofs.Common.{◌≡◌, true}
use Rattle.model.specs.Clamps.{is_high, is_low}
use Rattle.model.proofs.Clamps.{Counted}
use Rattle.model.proofs.voice.model.all_between.Given as goal

abbrev pub invariant-loop-vari : goal.invariant-loop-vari
invariant-loop-vari l = l.between ≡ true → Counted is_high l.varis l.vari-index 0 × Counted is_low l.varis l.vari-index 0
