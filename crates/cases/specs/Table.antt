-- RULES, Cases: the table of ten cases as one statement. The calls of 1 to 9 are made with an output of sevens and a work space of nines, so that what they leave is said too.
use Rattle.std.specs.Prelude.{◌≡◌, Ok, Err, false, List, [], ◌∷◌, map, ℕ, Float}
use Rattle.std.specs.Float.{binary64}
use Rattle.std.specs.Float.Ieee.{of_bits, to_bits}
use Rattle.lists.specs.declared.Refusal.TheVariants.{TargetTooLong, EstimateTooLong}
use Rattle.floats.specs.Numbers.{one, number}
use Rattle.duration.specs.Fit.{start_of}
use Rattle.steps.specs.Steps.{states}
use Rattle.duration.specs.Promise.{FitSays, SpeedSays, AlignSays}
use Rattle.duration.specs.Inputs.{two_three, one-one, ones, sevens, nines, cleared, halves, unset}
use Rattle.mlpg_adjust.specs.Trajectory.{record_size, matrix, side}

-- a float by its bits
abbrev pub bits : ℕ → Float
bits b = of_bits binary64 b

-- 2.4 and 3.4
abbrev pub two_point_four : Float
two_point_four = bits 0x4003_3333_3333_3333

abbrev pub three_point_four : Float
three_point_four = bits 0x400b_3333_3333_3333

-- case 10: a record is the means of its two windows, then their variances, all 1 but the first means 1, 2, 3
abbrev pub records : List Float
records = one ∷ one ∷ one ∷ one ∷ bits 0x4000_0000_0000_0000 ∷ one ∷ one ∷ one ∷ bits 0x4008_0000_0000_0000 ∷ one ∷ one ∷ one ∷ []

-- windows (1) and (-0.5, 0, 0.5)
abbrev pub coefficients : List Float
coefficients = one ∷ bits 0xbfe0_0000_0000_0000 ∷ bits 0 ∷ bits 0x3fe0_0000_0000_0000 ∷ []

pub record Table : Type 0 where
  pub case_1_start : start_of (states two_three one-one ones) 8 ≡ 4 ∷ 5 ∷ []
  pub case_1 : FitSays (states two_three one-one ones) (number 8) sevens nines (Ok 1) (3 ∷ 5 ∷ 7 ∷ []) cleared
  pub case_2 : FitSays (states two_three one-one ones) (number 7) sevens nines (Ok 0) (3 ∷ 4 ∷ 7 ∷ []) cleared
  pub case_3 : FitSays (states two_three one-one ones) two_point_four sevens nines (Ok 0) (1 ∷ 1 ∷ 7 ∷ []) cleared
  pub case_4 : FitSays (states two_three one-one ones) (halves 5) sevens nines (Ok 0) (1 ∷ 2 ∷ 7 ∷ []) cleared
  pub case_5 : FitSays (states (number 2 ∷ number 2 ∷ []) (number 0 ∷ number 0 ∷ []) ones) (number 6) sevens nines (Ok 4) (5 ∷ 1 ∷ 7 ∷ []) cleared
  pub case_6_target : FitSays (states two_three one-one ones) (halves 131073) sevens nines (Err TargetTooLong) sevens cleared
  pub case_6_start : start_of (states two_three one-one ones) 65536 ≡ 32768 ∷ 32769 ∷ []
  pub case_6_total : FitSays (states two_three one-one ones) (number 65536) sevens nines (Err EstimateTooLong) sevens cleared
  pub case_7_one : SpeedSays (states two_three one-one ones) (number 1) sevens nines (Ok 0) (2 ∷ 3 ∷ 7 ∷ []) cleared
  pub case_7_two : SpeedSays (states two_three one-one ones) (number 2) sevens nines (Ok 0) (1 ∷ 2 ∷ 7 ∷ []) cleared
  pub case_8 : AlignSays (states two_three one-one ones) 1 (unset ∷ number 8 ∷ []) sevens nines (Ok (record { states = 2; changes = 1 })) (3 ∷ 5 ∷ 7 ∷ []) cleared
  pub case_9_open : AlignSays (states two_three one-one ones) 1 (number 4 ∷ unset ∷ []) sevens nines (Ok (record { states = 2; changes = 0 })) (4 ∷ 3 ∷ 7 ∷ []) cleared
  pub case_9_given : AlignSays (states two_three one-one ones) 1 (halves 3 ∷ three_point_four ∷ []) sevens nines (Ok (record { states = 2; changes = 0 })) (2 ∷ 1 ∷ 7 ∷ []) cleared
  -- (1.25, 0, -0.25), (1, 0, 0), (1.25, 0, 0)
  pub case_10_rows : map (to_bits binary64) (matrix (record_size 1 2 false) records (bits 0) (1 ∷ 1 ∷ 1 ∷ []) 1 (1 ∷ 3 ∷ []) coefficients 0)
      ≡ 0x3ff4_0000_0000_0000 ∷ 0 ∷ 0xbfd0_0000_0000_0000 ∷ 0x3ff0_0000_0000_0000 ∷ 0 ∷ 0 ∷ 0x3ff4_0000_0000_0000 ∷ 0 ∷ 0 ∷ []
  -- 0.5, 2, 3.5
  pub case_10_right : map (to_bits binary64) (side (record_size 1 2 false) records (bits 0) (1 ∷ 1 ∷ 1 ∷ []) 1 (1 ∷ 3 ∷ []) coefficients 0)
      ≡ 0x3fe0_0000_0000_0000 ∷ 0x4000_0000_0000_0000 ∷ 0x400c_0000_0000_0000 ∷ []
