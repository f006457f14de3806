use mathlib.Core.Path.{refl}
use native.Mathlib.Omega.{arith}
use Rattle.std.proofs.Common.{ap, not}
use Rattle.solve.proofs.Solved.{solve_all}
use Rattle.solve.proofs.solve.Goals as goal

pub returns : goal.returns
returns c = solve_all _ _ _ (omega arith) _ c.fits.ensures (ap not c.if-not-fits.false) _ _ _ c.places.ensures refl c.from.ensures
    _ _ c.eliminate.ensures c.backward.ensures
