-- RULES, Cases: case 10 from the records: windows (1) and (-0.5, 0, 0.5), three states of one frame each, first means 1, 2, 3, all other means and all variances 1.
-- And clamped pairs. Computed from the definitions.
use Rattle.std.specs.Prelude.{◌≡◌, refl, Ok, Err, None, true, false, List, [], ◌∷◌, ◌++◌, map, ℕ, Float}
use Rattle.std.specs.Float.{nan, binary64}
use Rattle.std.specs.Float.Ieee.{of_bits, to_bits, lt, eq, add, mul, div}
use Rattle.floats.specs.Numbers.{one}
use Rattle.floats.specs.Order.{abs_of}
use Rattle.model.specs.Pair.{ivar_of, clamp_of}
use Rattle.model.specs.Record.{from_linear}
use Rattle.model.specs.Windows.{longest}
use Rattle.model.specs.Clamps.{clamped_in}
use Rattle.lists.specs.Frames.{count}
use Rattle.voicing.specs.Mask.{mask_of, weights_of}
use Rattle.mlpg_adjust.specs.Trajectory.{record_size, matrix, side}
use Rattle.mlpg_adjust.specs.Clamps.{clamped_over, clamped_high, clamped_low}
use Rattle.lists.specs.Answers.{answer_of}
use Rattle.lists.specs.declared.Refusal.TheVariants.{TooLittleRoom}
use Rattle.mlpg_adjust.specs.Promise.{created}
use Rattle.mlpg_adjust.specs.declared.Stream.{Stream}

-- 1, 2, 3, -0.5, 0.5 and 0
abbrev f : ℕ → Float
f b = of_bits binary64 b

abbrev records : List Float
records = one ∷ one ∷ one ∷ one ∷ f 0x4000_0000_0000_0000 ∷ one ∷ one ∷ one ∷ f 0x4008_0000_0000_0000 ∷ one ∷ one ∷ one ∷ []

abbrev taps : List Float
taps = one ∷ f 0xbfe0_0000_0000_0000 ∷ f 0 ∷ f 0x3fe0_0000_0000_0000 ∷ []

-- (1.25, 0, -0.25), (1, 0, 0), (1.25, 0, 0)
pub case_10_rows : map (to_bits binary64) (matrix (record_size 1 2 false) records (f 0) (1 ∷ 1 ∷ 1 ∷ []) 1 (1 ∷ 3 ∷ []) taps 0)
    ≡ 0x3ff4_0000_0000_0000 ∷ 0 ∷ 0xbfd0_0000_0000_0000 ∷ 0x3ff0_0000_0000_0000 ∷ 0 ∷ 0 ∷ 0x3ff4_0000_0000_0000 ∷ 0 ∷ 0 ∷ []
unfolding matrix count mask_of weights_of lt of_bits from_linear longest to_bits eq add mul ivar_of abs_of div
case_10_rows = refl

-- 0.5, 2, 3.5
pub case_10_right : map (to_bits binary64) (side (record_size 1 2 false) records (f 0) (1 ∷ 1 ∷ 1 ∷ []) 1 (1 ∷ 3 ∷ []) taps 0) ≡ 0x3fe0_0000_0000_0000 ∷ 0x4000_0000_0000_0000 ∷ 0x400c_0000_0000_0000 ∷ []
unfolding side count mask_of weights_of lt of_bits from_linear to_bits eq add mul ivar_of abs_of div
case_10_right = refl

-- RULES, Clamps: a stream of v 2 in windows of one and three, of states of 2, 3, 1 and no frames, of which the second is unvoiced. The runs are so short that the second window is
-- zeroed in all of their frames
abbrev clamped_stream : Stream
clamped_stream = record { v = 2; masked = true; threshold = f 0; fill = f 0; gv = None }

-- 1e20 and 1e-20
abbrev large : Float
large = f 0x4415_af1d_78b5_8c40

abbrev small : Float
small = f 0x3bc7_9ca1_0c92_4223

-- a record of means of 1 and these variances, those of the first window before those of the second, with a weight
abbrev state_of : Float → Float → Float → Float → Float → List Float
state_of x y z w weight = one ∷ one ∷ one ∷ one ∷ x ∷ y ∷ z ∷ w ∷ weight ∷ []

abbrev clamped_records : List Float
clamped_records = state_of (f 0) one one large one ++ (state_of large large large large (f 0) ++ (state_of nan small small one one ++ state_of (f 0) (f 0) (f 0) (f 0) one))

abbrev high : ℕ
high = clamped_high clamped_stream (1 ∷ 3 ∷ []) clamped_records (2 ∷ 3 ∷ 1 ∷ 0 ∷ [])

abbrev low : ℕ
low = clamped_low clamped_stream (1 ∷ 3 ∷ []) clamped_records (2 ∷ 3 ∷ 1 ∷ 0 ∷ [])

-- 1e20 in two frames of the second window
pub clamped_high_lem : high ≡ 2
unfolding clamped_over clamped_in clamp_of count mask_of weights_of lt of_bits from_linear abs_of
clamped_high_lem = refl

-- 0 in two frames, and 1e-20 twice in one
pub clamped_low_lem : low ≡ 4
unfolding clamped_over clamped_in clamp_of count mask_of weights_of lt of_bits from_linear abs_of
clamped_low_lem = refl

-- so a call that is accepted answers, high before low, and one that is refused has no counts
pub clamped_answer : created (Ok (record { high = 2; low = 4 })) ≡ answer_of 0 (high ∷ low ∷ [])
unfolding clamped_over clamped_in clamp_of count mask_of weights_of lt of_bits from_linear abs_of
clamped_answer = refl

pub refused_answer : created (Err TooLittleRoom) ≡ answer_of 6 (high ∷ low ∷ [])
refused_answer = refl
