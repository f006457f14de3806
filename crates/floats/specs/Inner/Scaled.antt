-- A number above zero as whole digits and a scale: what the root's private functions hand on.
use Rattle.std.specs.Prelude.{false, ℕ, ◌*◌, ◌^◌, ◌≤◌, ◌<◌, Float}
use Rattle.std.specs.Float.Ieee.Exact.{HasValue}

-- x is digits * 2 ^ scale / 2 ^ 1126, with 53 digits
pub record IsScaled (x : Float) (digits scale : ℕ) : Type 0 where
  pub value : HasValue x false (digits * 2 ^ scale) (2 ^ 1126)
  pub full : 2 ^ 52 ≤ digits
  pub short : digits < 2 ^ 53
  pub near : scale < 2100
