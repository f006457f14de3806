use Rattle.std.proofs.Common.{rules}
use Rattle.duration.proofs.Fits.{fit-clears}
use Rattle.duration.proofs.estimate_duration_with_frame_length.Goals as goal

pub returns : goal.returns
returns c = rw (← c.rounded-target.ensures) (c.fit_states.ensures _ _ (fit-clears _ _) (λ p q r a k. search rules))
