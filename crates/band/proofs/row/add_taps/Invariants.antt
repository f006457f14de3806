use mathlib.Core.Path.{◌≡◌}
use mathlib.Core.List.{◌++◌}
use lib.ListN.{get_or, drop}
use Rattle.lists.specs.Build.{build}
use Rattle.floats.specs.Numbers.{nought}
use Rattle.region.specs.Rows.{elem}
use Rattle.band.specs.Paper.{plus_term}
use Rattle.band.proofs.row.add_taps.Given as goal

-- j entries are done, and the rest is as it was
abbrev pub invariant-loop-j : goal.invariant-loop-j
invariant-loop-j l = l.row ≡ build (λ j. plus_term l.wu (get_or l.taps j nought) (elem l.initial.row j)) l.j ++ drop l.j l.initial.row
