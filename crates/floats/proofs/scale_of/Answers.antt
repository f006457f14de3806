use mathlib.Core.Path.{◌≡◌, sym, subst}
use Prim.Native.Nat.{ℕ, ◌+◌, ◌/◌, ◌^◌, ◌≤◌, ◌<◌}
use native.Mathlib.Omega.{arith}
use lib.Count.{count_leading_zeros}
use lib.Ieee.{binary64, of_bits}
use Rattle.floats.specs.Inner.Scaled.{IsScaled}
use Rattle.floats.proofs.Fields.{digits_are}
use Rattle.floats.proofs.Roots.{normal_scaled, subnormal_scaled, zeros-many, zeros-few}
use Rattle.floats.proofs.scale_of.Goals as goal
use Rattle.floats.proofs.scale_of.Goals.{Then-field-eq0}

low : (b : ℕ) → b / 2 ^ 52 ≡ 0 → b < 2 ^ 52
low b e = omega arith

-- a subnormal: the pattern is its digits
module _ (c : Then-field-eq0) where
  abbrev b : ℕ
  b = c.args.bits

  many : 11 ≤ count_leading_zeros 64 b
  many = zeros-many b c.before.requires.0 (low b c.if-field-eq0.true)

  few : count_leading_zeros 64 b ≤ 63
  few = zeros-few b c.before.requires.0 (low b c.if-field-eq0.true)

pub overflow_sub-shift : goal.overflow_sub-shift
overflow_sub-shift c = many (goal.at.overflow_sub-shift c).Then-field-eq0

pub returns-then-field-eq0 : goal.returns-then-field-eq0
returns-then-field-eq0 c = subnormal_scaled c.args.bits c.before.requires.0 (low c.args.bits c.if-field-eq0.true)

pub returns : goal.returns
returns c = subst (λ (d : ℕ). IsScaled (of_bits binary64 c.args.bits) d (c.args.bits / 2 ^ 52 + 51)) (sym (digits_are c.args.bits)) (normal_scaled c.args.bits c.before.requires.1 c.if-field-eq0.false)
