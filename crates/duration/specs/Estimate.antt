-- How long states are estimated to be.
use Rattle.std.specs.Prelude.{List, ℕ, max, Float}
use Rattle.std.specs.Float.{binary64}
use Rattle.std.specs.Float.Ieee.{add, mul}
use Rattle.floats.specs.Rounding.{rounded_of}
use Rattle.lists.specs.Build.{build}
use Rattle.floats.specs.Numbers.{nought}
use Rattle.steps.specs.Steps.{State, States, size, state_at}

-- RULES, Durations: the mean plus rho times the variance, each operation rounded, then the nearest whole number, a half away from zero, and at least the
-- state's shortest
abbrev pub estimate_of : Float → State → ℕ
estimate_of rho x = max x.shortest (rounded_of (add binary64 x.mean (mul binary64 rho x.vari)))

-- one estimate a state
unfoldable pub estimates : Float → States → List ℕ
estimates rho ss = build (λ i. estimate_of rho (state_at ss i)) (size ss)

-- RULES, Durations: states that no length or end stretches have their natural durations, the estimate with rho 0
unfoldable pub naturals : States → List ℕ
naturals ss = estimates nought ss
