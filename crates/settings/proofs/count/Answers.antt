use native.Mathlib.Omega.{arith}
use Rattle.settings.proofs.Holding.{held-few, count-short, count-done}
use Rattle.settings.proofs.count.Goals as goal

pub returns-then-voices-lt-PLACES : goal.returns-then-voices-lt-PLACES
returns-then-voices-lt-PLACES c = count-short c.args.voices.now c.if-voices-lt-PLACES.true

pub returns : goal.returns
returns c = count-done c.args.voices.now _ c.if-voices-lt-PLACES.false c.held.ensures

pub overflow_cast-result : goal.overflow_cast-result
overflow_cast-result c = record { fits = omega (arith, c.held.ensures, held-few c.args.voices.now) }
