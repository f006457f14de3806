-- Durations at a speed.
use Rattle.std.specs.Prelude.{cond, ℕ, ltb, Float}
use Rattle.std.specs.Float.{binary64}
use Rattle.std.specs.Float.Ieee.{div, eq}
use Rattle.lists.specs.Sizes.{most_frames}
use Rattle.lists.specs.Totals.{total}
use Rattle.floats.specs.Rounding.{rounded_of}
use Rattle.floats.specs.Numbers.{one, number}
use Rattle.duration.specs.Estimate.{naturals}
use Rattle.steps.specs.Steps.{States, Outcome, unchanged}
use Rattle.duration.specs.Fit.{fit_to, refusal_to}

-- RULES, Durations: the frames of the natural durations over the speed, rounded as a length is
unfoldable pub target_at : States → Float → ℕ
target_at ss speed = rounded_of (div binary64 (number (total (naturals ss))) speed)

-- RULES, Durations: at speed 1 those stand, with 0 changes; at any other speed the states are fitted to the target
unfoldable pub fit_at : States → Float → Outcome
fit_at ss speed = cond (eq speed one) (unchanged (naturals ss)) (fit_to ss (target_at ss speed))

-- RULES, Refusals: 8 for a first estimate above 65,536 frames, then the refusals of the fit
unfoldable pub refusal_at : States → Float → ℕ
refusal_at ss speed = cond (ltb most_frames (total (naturals ss))) 8 (cond (eq speed one) 0 (refusal_to ss (target_at ss speed)))
