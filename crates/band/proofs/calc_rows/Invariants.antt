use mathlib.Core.Path.{◌≡◌}
use Rattle.region.specs.Region.{region_in, flat}
use Rattle.region.proofs.Lanes.{Stepped}
use Rattle.band.specs.Promise.{rowed_in}
use Rattle.band.proofs.calc_rows.Given as goal

-- l components have their rows
abbrev pub invariant-loop-l : goal.invariant-loop-l
invariant-loop-l l =
    Stepped (λ j b e. e ≡ flat (rowed_in l.widths l.coefficients l.g (region_in l.g b))) l.p.size l.lanes l.l l.initial.work l.work
