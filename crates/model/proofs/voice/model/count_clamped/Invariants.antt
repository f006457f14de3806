use Rattle.model.specs.Clamps.{is_high, is_low}
use Rattle.model.proofs.Clamps.{Counted}
use Rattle.model.proofs.voice.model.count_clamped.Given as goal

abbrev pub invariant-loop-vari : goal.invariant-loop-vari
invariant-loop-vari l = Counted is_high l.varis l.vari-index l.high × Counted is_low l.varis l.vari-index l.low
