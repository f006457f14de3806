use mathlib.Core.Path.{◌≡◌}
use mathlib.Core.List.{◌++◌, map}
use lib.ListN.{length, drop}
use Rattle.lists.specs.Build.{build}
use Rattle.lists.specs.Flags.{is_on}
use Rattle.gv.specs.Gv.{conv_at}
use Rattle.gv.proofs.switches.rescale.Given as goal

abbrev pub invariant-loop-t : goal.invariant-loop-t
invariant-loop-t l = (length l.par ≡ length l.initial.par) × (l.par ≡ build (conv_at (map is_on l.on) l.mean l.ratio l.initial.par) l.t ++ drop l.t l.initial.par)
