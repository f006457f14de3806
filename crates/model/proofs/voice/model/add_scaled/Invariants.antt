use Rattle.std.proofs.Common.{◌≡◌, ◌++◌, take, drop}
use Rattle.model.specs.Mixing.{more_by, over_shorter}
use Rattle.model.proofs.voice.model.add_scaled.Given as goal

abbrev pub invariant-loop-i : goal.invariant-loop-i
invariant-loop-i l = (take l.i l.lhs ++ over_shorter (more_by l.weight) (drop l.i l.lhs) (drop l.i l.rhs) ≡ over_shorter (more_by l.weight) l.initial.lhs l.rhs)
