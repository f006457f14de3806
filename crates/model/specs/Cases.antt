-- Worked cases of an inverse variance and of its clamp, and the bounds themselves, computed from the definitions.
use Rattle.std.specs.Prelude.{◌≡◌, refl, ℕ}
use Rattle.std.specs.Float.{binary64}
use Rattle.std.specs.Float.Ieee.{of_bits, to_bits, lt, div}
use Rattle.floats.specs.Order.{abs_of}
use Rattle.model.specs.declared.mean_vari.Clamp.{Clamp}
use Rattle.model.specs.declared.mean_vari.Clamp.TheVariants.{High, Low, No}
use Rattle.model.specs.Pair.{ivar_of, clamp_of}

ivar : ℕ → ℕ
unfolding ivar_of of_bits to_bits abs_of lt div
ivar bits = to_bits binary64 (ivar_of (of_bits binary64 bits))

record Ivars : Type 0 where
  -- RULES, Pairs: 0 has 1e38, -4 has -0.25, and NaN has NaN
  pub no_variance : ivar 0 ≡ 0x47d2_ced3_2a16_a1b1
  pub minus_four : ivar 0xc010_0000_0000_0000 ≡ 0xbfd0_0000_0000_0000
  pub no_number : ivar 0x7ff8_0000_0000_0000 ≡ 0x7ff8_0000_0000_0000
  -- 1e19 and 1e-19 themselves are inverted; the next number above, and the next below, are not
  pub at_high : ivar 0x43e1_58e4_6091_3d00 ≡ 0x3bfd_83c9_4fb6_d2ac
  pub above_high : ivar 0x43e1_58e4_6091_3d01 ≡ 0
  pub at_low : ivar 0x3bfd_83c9_4fb6_d2ac ≡ 0x43e1_58e4_6091_3d00
  pub below_low : ivar 0x3bfd_83c9_4fb6_d2ab ≡ 0x47d2_ced3_2a16_a1b1

ivars : Ivars
unfolding ivar
ivars = record { no_variance = refl; minus_four = refl; no_number = refl; at_high = refl; above_high = refl; at_low = refl; below_low = refl }

clamp : ℕ → Clamp
unfolding clamp_of of_bits abs_of lt
clamp bits = clamp_of (of_bits binary64 bits)

record Clamped : Type 0 where
  -- RULES, Clamps: 0 is clamped low, infinity and -1e20 high, -4 and NaN not at all
  pub no_variance : clamp 0 ≡ Low
  pub endless : clamp 0x7ff0_0000_0000_0000 ≡ High
  pub minus_large : clamp 0xc415_af1d_78b5_8c40 ≡ High
  pub minus_four : clamp 0xc010_0000_0000_0000 ≡ No
  pub no_number : clamp 0x7ff8_0000_0000_0000 ≡ No
  -- 1e19 and 1e-19 themselves are not; the next number above, and the next below, are
  pub at_high : clamp 0x43e1_58e4_6091_3d00 ≡ No
  pub above_high : clamp 0x43e1_58e4_6091_3d01 ≡ High
  pub at_low : clamp 0x3bfd_83c9_4fb6_d2ac ≡ No
  pub below_low : clamp 0x3bfd_83c9_4fb6_d2ab ≡ Low

clamped : Clamped
unfolding clamp
clamped = record { no_variance = refl; endless = refl; minus_large = refl; minus_four = refl; no_number = refl; at_high = refl; above_high = refl; at_low = refl; below_low = refl }
