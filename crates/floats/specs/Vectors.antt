-- Worked values, computed from the definitions.
use Rattle.std.specs.Prelude.{◌≡◌, refl, ℕ, pos, negsuc}
use Rattle.std.specs.Float.{binary64}
use Rattle.std.specs.Float.Ieee.{of_bits, to_bits}
use Rattle.floats.specs.Rounding.{Integral, whole, to_integral, rounded_of}
use Rattle.floats.specs.Root.{sqrt_of}

pub integral_at : ℕ → Integral
unfolding to_integral of_bits
integral_at b = to_integral (of_bits binary64 b)

-- RULES, Durations: the number next below a half gives 0, 2.5 gives 3 and -2.5 gives -3
pub below_half : integral_at 0x3fdf_ffff_ffff_ffff ≡ whole (pos 0)
unfolding integral_at
below_half = refl

pub two_and_a_half : integral_at 0x4004_0000_0000_0000 ≡ whole (pos 3)
unfolding integral_at
two_and_a_half = refl

pub minus_two_and_a_half : integral_at 0xc004_0000_0000_0000 ≡ whole (negsuc 2)
unfolding integral_at
minus_two_and_a_half = refl

pub frames_at : ℕ → ℕ
unfolding rounded_of of_bits
frames_at b = rounded_of (of_bits binary64 b)

-- the last number of frames that is not refused, half a frame more, and 1e300
pub most-frames : frames_at 0x40f0_0000_0000_0000 ≡ 65536
unfolding frames_at
most-frames = refl

pub too_many-frames : frames_at 0x40f0_0008_0000_0000 ≡ 65537
unfolding frames_at
too_many-frames = refl

pub far_too_many_frames : frames_at 0x7e37_e43c_8800_759c ≡ 65537
unfolding frames_at
far_too_many_frames = refl

pub root_at : ℕ → ℕ
unfolding sqrt_of of_bits to_bits
root_at b = to_bits binary64 (sqrt_of (of_bits binary64 b))

-- the roots of 2, of the smallest subnormal, of the largest finite number and of -0
pub root_two : root_at 0x4000_0000_0000_0000 ≡ 0x3ff6_a09e_667f_3bcd
unfolding root_at
root_two = refl

pub root_least : root_at 1 ≡ 0x1e60_0000_0000_0000
unfolding root_at
root_least = refl

pub root_most : root_at 0x7fef_ffff_ffff_ffff ≡ 0x5fef_ffff_ffff_ffff
unfolding root_at
root_most = refl

pub root_minus_zero : root_at 0x8000_0000_0000_0000 ≡ 0x8000_0000_0000_0000
unfolding root_at
root_minus_zero = refl
