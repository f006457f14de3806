use mathlib.Core.Path.{◌≡◌}
use mathlib.Core.List.{map}
use lib.ListN.{length}
use lib.Ieee.{binary64, mul}
use Rattle.lists.specs.Flags.{is_on}
use Rattle.region.specs.Rows.{elem}
use Rattle.region.proofs.Lanes.{Stepped}
use Rattle.gv.specs.Inner.Turns.{lists_in, parmgen_in}
use Rattle.gv.proofs.MlpgGlobalVariance.parmgen_each.Given as goal

abbrev pub invariant-loop-l : goal.invariant-loop-l
invariant-loop-l l =
    Stepped (λ j b e. lists_in l.self l.p e ≡ parmgen_in l.self (map is_on l.on) (mul binary64 (elem l.means j) l.weight) (elem l.varis j) (lists_in l.self l.p b)) l.p.size (length l.means) l.l l.initial.work l.work
