use mathlib.Core.Path.{◌≡◌}
use mathlib.Core.List.{map}
use lib.ListN.{length}
use lib.Seq.{sets}
use Rattle.lists.specs.Build.{build}
use Rattle.lists.specs.Flags.{is_on}
use Rattle.gv.specs.Inner.Turns.{moved_in}
use Rattle.gv.proofs.MlpgGlobalVariance.next_step.Given as goal

abbrev pub invariant-loop-t : goal.invariant-loop-t
invariant-loop-t l = (length l.m ≡ length l.initial.m) × (l.m ≡ sets l.initial.m l.p.values (build (moved_in l.self l.p (map is_on l.on) l.s l.initial.m) l.t))
