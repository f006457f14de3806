-- RULES, Cases: 1 to 9 of the table by computation, calls with an output of sevens and a work space of nines.
use Rattle.lists.specs.declared.Refusal.TheVariants.{EstimateTooLong, TargetTooLong}
use Rattle.std.specs.Prelude.{◌≡◌, refl, [], ◌∷◌, Ok, Err}
use Rattle.std.specs.Float.{binary64}
use Rattle.std.specs.Float.Ieee.{of_bits, of_int, add, sub, mul, div, neg, lt, le, eq, is_nan}
use Rattle.lists.specs.Totals.{total}
use Rattle.lists.specs.Build.{build, fold_from}
use Rattle.floats.specs.Rounding.{rounded_of}
use Rattle.floats.specs.Order.{abs_of, cost_below}
use Rattle.model.specs.Pair.{pairs_of, sum_of}
use Rattle.floats.specs.Numbers.{number}
use Rattle.duration.specs.Shortest.{any_none, refusal_of_shortest}
use Rattle.duration.specs.Estimate.{estimates, naturals}
use Rattle.steps.specs.Steps.{states, key_of, keys, least_of, step, settle}
use Rattle.duration.specs.Fit.{start_of, fit_to, refusal_to}
use Rattle.duration.specs.Speed.{target_at, fit_at, refusal_at}
use Rattle.duration.specs.Align.{groups, fit_along, refusal_of, refusal_along}
use Rattle.duration.specs.Inputs.{two_three, one-one, ones, sevens, nines, cleared, halves, unset}
use Rattle.duration.specs.Promise.{work_of, refusal_of_lists, refusal_of_labels, FitSays, SpeedSays, AlignSays}

pub case_1_start : start_of (states two_three one-one ones) 8 ≡ 4 ∷ 5 ∷ []
unfolding start_of estimates build rounded_of sum_of fold_from pairs_of of_bits of_int add sub mul div
case_1_start = refl

pub case_1 : FitSays (states two_three one-one ones) (number 8) sevens nines (Ok 1) (3 ∷ 5 ∷ 7 ∷ []) cleared
unfolding work_of any_none refusal_of_shortest refusal_of_lists refusal_to fit_to settle step keys key_of least_of cost_below abs_of total start_of estimates build rounded_of sum_of fold_from pairs_of of_bits of_int add sub mul div lt is_nan
case_1 = record { answer = refl; output = refl; workspace = refl }

pub case_2 : FitSays (states two_three one-one ones) (number 7) sevens nines (Ok 0) (3 ∷ 4 ∷ 7 ∷ []) cleared
unfolding work_of any_none refusal_of_shortest refusal_of_lists refusal_to fit_to settle step keys key_of least_of cost_below abs_of total start_of estimates build rounded_of sum_of fold_from pairs_of of_bits of_int add sub mul div lt is_nan
case_2 = record { answer = refl; output = refl; workspace = refl }

-- 2.4
pub case_3 : FitSays (states two_three one-one ones) (of_bits binary64 0x4003_3333_3333_3333) sevens nines (Ok 0) (1 ∷ 1 ∷ 7 ∷ []) cleared
unfolding work_of any_none refusal_of_shortest refusal_of_lists refusal_to fit_to settle step keys key_of least_of cost_below abs_of total start_of estimates build rounded_of sum_of fold_from pairs_of of_bits of_int add sub mul div lt is_nan
case_3 = record { answer = refl; output = refl; workspace = refl }

pub case_4 : FitSays (states two_three one-one ones) (halves 5) sevens nines (Ok 0) (1 ∷ 2 ∷ 7 ∷ []) cleared
unfolding work_of any_none refusal_of_shortest refusal_of_lists refusal_to fit_to settle step keys key_of least_of cost_below abs_of total start_of estimates build rounded_of sum_of fold_from pairs_of of_bits of_int add sub mul div lt is_nan
case_4 = record { answer = refl; output = refl; workspace = refl }

pub case_5 : FitSays (states (number 2 ∷ number 2 ∷ []) (number 0 ∷ number 0 ∷ []) ones) (number 6) sevens nines (Ok 4) (5 ∷ 1 ∷ 7 ∷ []) cleared
unfolding work_of any_none refusal_of_shortest refusal_of_lists refusal_to fit_to settle step keys key_of least_of cost_below abs_of total start_of estimates build rounded_of sum_of fold_from pairs_of of_bits of_int add sub mul div lt is_nan
case_5 = record { answer = refl; output = refl; workspace = refl }

pub case_6_target : FitSays (states two_three one-one ones) (halves 131073) sevens nines (Err TargetTooLong) sevens cleared
unfolding work_of any_none refusal_of_shortest refusal_of_lists refusal_to fit_to settle step keys key_of least_of cost_below abs_of total start_of estimates build rounded_of sum_of fold_from pairs_of of_bits of_int add sub mul div lt is_nan
case_6_target = record { answer = refl; output = refl; workspace = refl }

pub case_6_start_over : FitSays (states two_three one-one ones) (number 65536) sevens nines (Err EstimateTooLong) sevens cleared
unfolding work_of any_none refusal_of_shortest refusal_of_lists refusal_to fit_to settle step keys key_of least_of cost_below abs_of total start_of estimates build rounded_of sum_of fold_from pairs_of of_bits of_int add sub mul div lt is_nan
case_6_start_over = record { answer = refl; output = refl; workspace = refl }

pub case_6_start : start_of (states two_three one-one ones) 65536 ≡ 32768 ∷ 32769 ∷ []
unfolding start_of estimates build rounded_of sum_of fold_from pairs_of of_bits of_int add sub mul div
case_6_start = refl

pub case_7_one : SpeedSays (states two_three one-one ones) (number 1) sevens nines (Ok 0) (2 ∷ 3 ∷ 7 ∷ []) cleared
unfolding work_of any_none refusal_of_shortest refusal_of_lists refusal_at fit_at target_at naturals eq refusal_to fit_to settle step keys key_of least_of cost_below abs_of total start_of estimates build rounded_of sum_of fold_from pairs_of of_bits of_int add sub mul div lt is_nan
case_7_one = record { answer = refl; output = refl; workspace = refl }

pub case_7_two : SpeedSays (states two_three one-one ones) (number 2) sevens nines (Ok 0) (1 ∷ 2 ∷ 7 ∷ []) cleared
unfolding work_of any_none refusal_of_shortest refusal_of_lists refusal_at fit_at target_at naturals eq refusal_to fit_to settle step keys key_of least_of cost_below abs_of total start_of estimates build rounded_of sum_of fold_from pairs_of of_bits of_int add sub mul div lt is_nan
case_7_two = record { answer = refl; output = refl; workspace = refl }

-- RULES, Job file: the worked job
pub case_job : SpeedSays (states two_three one-one ones) (halves 1) sevens nines (Ok 1) (4 ∷ 6 ∷ 7 ∷ []) cleared
unfolding work_of any_none refusal_of_shortest refusal_of_lists refusal_at fit_at target_at naturals eq refusal_to fit_to settle step keys key_of least_of cost_below abs_of total start_of estimates build rounded_of sum_of fold_from pairs_of of_bits of_int add sub mul div lt is_nan
case_job = record { answer = refl; output = refl; workspace = refl }

pub case_8 : AlignSays (states two_three one-one ones) 1 (unset ∷ number 8 ∷ []) sevens nines (Ok (record { states = 2; changes = 1 })) (3 ∷ 5 ∷ 7 ∷ []) cleared
unfolding work_of any_none refusal_of_shortest refusal_of_lists refusal_of_labels groups refusal_along refusal_of fit_along naturals neg le eq refusal_to fit_to settle step keys key_of least_of cost_below abs_of total start_of estimates build rounded_of sum_of fold_from pairs_of of_bits of_int add sub mul div lt is_nan
case_8 = record { answer = refl; output = refl; workspace = refl }

pub case_9_open : AlignSays (states two_three one-one ones) 1 (number 4 ∷ unset ∷ []) sevens nines (Ok (record { states = 2; changes = 0 })) (4 ∷ 3 ∷ 7 ∷ []) cleared
unfolding work_of any_none refusal_of_shortest refusal_of_lists refusal_of_labels groups refusal_along refusal_of fit_along naturals neg le eq refusal_to fit_to settle step keys key_of least_of cost_below abs_of total start_of estimates build rounded_of sum_of fold_from pairs_of of_bits of_int add sub mul div lt is_nan
case_9_open = record { answer = refl; output = refl; workspace = refl }

-- 1.5 and 3.4
pub case_9_close : AlignSays (states two_three one-one ones) 1 (halves 3 ∷ of_bits binary64 0x400b_3333_3333_3333 ∷ []) sevens nines (Ok (record { states = 2; changes = 0 })) (2 ∷ 1 ∷ 7 ∷ []) cleared
unfolding work_of any_none refusal_of_shortest refusal_of_lists refusal_of_labels groups refusal_along refusal_of fit_along naturals neg le eq refusal_to fit_to settle step keys key_of least_of cost_below abs_of total start_of estimates build rounded_of sum_of fold_from pairs_of of_bits of_int add sub mul div lt is_nan
case_9_close = record { answer = refl; output = refl; workspace = refl }

-- the running total: the second label's own fit would be accepted
pub running_total : AlignSays (states two_three one-one ones) 1 (number 65536 ∷ number 65537 ∷ []) sevens nines (Err EstimateTooLong) sevens cleared
unfolding work_of any_none refusal_of_shortest refusal_of_lists refusal_of_labels groups refusal_along refusal_of fit_along naturals neg le eq refusal_to fit_to settle step keys key_of least_of cost_below abs_of total start_of estimates build rounded_of sum_of fold_from pairs_of of_bits of_int add sub mul div lt is_nan
running_total = record { answer = refl; output = refl; workspace = refl }
