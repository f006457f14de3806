use Rattle.std.proofs.Common.{sym, arith}
use Rattle.read_along.proofs.Refusing.{timed}
use Rattle.read_along.proofs.Ways.{at-found}
use Rattle.read_along.proofs.at.Goals as goal

pub sounding-requires : goal.sounding-requires
sounding-requires c = timed _ _ _ (sym c.in_ok-check_timing.ensures)

pub overflow_cast-result : goal.overflow_cast-result
overflow_cast-result c =
    let f = c.in-Some.ensures in
    omega (arith, f.0, (timed _ _ _ (sym c.in_ok-check_timing.ensures)).few)

pub returns : goal.returns
returns c = at-found _ _ _ _ (sym c.in_ok-check_timing.ensures) _ c.in-Some.ensures
