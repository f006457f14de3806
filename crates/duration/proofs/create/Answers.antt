use Rattle.std.proofs.Common.{rules}
use Rattle.duration.proofs.Fits.{speed-clears}
use Rattle.duration.proofs.create.Goals as goal

pub returns : goal.returns
returns c = c.fit_states.ensures _ _ (speed-clears _ _) (λ p q r a k. search rules)
