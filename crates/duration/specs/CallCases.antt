-- Worked calls beside the table's, by computation: ends about zero, groups whose target is not above their count, chapters that do not drift, the
-- tail, which of the refusals 7 and 8 comes first, and shortest durations. Each call is made with an output of sevens and a work space of nines.
use Rattle.lists.specs.declared.Refusal.TheVariants.{BadShortest, BadSize, EstimateTooLong, ListsDisagree, TargetTooLong, TooLittleRoom}
use Rattle.std.specs.Prelude.{◌≡◌, refl, false, List, [], ◌∷◌, ℕ, ◌-◌, ◌*◌, ◌^◌, negsuc, Float, Ok, Err}
use Rattle.std.proofs.Common.{arith}
use Rattle.std.specs.Float.{nan, inf, fin, binary64}
use Rattle.std.specs.Float.Ieee.{of_bits, of_int, add, sub, mul, div, neg, lt, le, eq, is_nan}
use Rattle.lists.specs.Totals.{total, gap}
use Rattle.lists.specs.Build.{build, fold_from}
use Rattle.floats.specs.Rounding.{nearest_half, rounded_of}
use Rattle.floats.specs.Order.{abs_of, cost_below}
use Rattle.floats.specs.Numbers.{number}
use Rattle.model.specs.Pair.{pairs_of, sum_of}
use Rattle.duration.specs.declared.align.End.TheVariants.{At, Open}
use Rattle.duration.specs.Shortest.{any_none, refusal_of_shortest}
use Rattle.duration.specs.Estimate.{estimates, naturals}
use Rattle.steps.specs.Steps.{states, key_of, keys, least_of, step, settle}
use Rattle.duration.specs.Fit.{start_of, fit_to, refusal_to}
use Rattle.duration.specs.Speed.{target_at, fit_at, refusal_at}
use Rattle.duration.specs.Align.{end_of, groups, fit_along, refusal_of, refusal_along}
use Rattle.duration.specs.Drift.{end_rounded, closed_before, group_states, NoDrift}
use Rattle.duration.specs.Promise.{work_of, refusal_of_lists, refusal_of_labels, FitSays, SpeedSays, AlignSays}
use Rattle.duration.specs.Fitting.{last_from}
use Rattle.duration.specs.Inputs.{two_three, one-one, ones, sevens, nines, cleared, halves, unset}

-- ---- -0 is given, the least number below it and NaN are open

abbrev minus_zero : Float
minus_zero = of_bits binary64 0x8000_0000_0000_0000

-- -2 ^ -1074
abbrev least-below : Float
least-below = of_bits binary64 0x8000_0000_0000_0001

pub end_minus_zero : end_of minus_zero ≡ At minus_zero
unfolding le of_bits
end_minus_zero = refl

pub end_least_below : end_of least-below ≡ Open
unfolding le of_bits
end_least_below = refl

pub end_nan : end_of nan ≡ Open
unfolding le of_bits
end_nan = refl

-- so -0 closes the first state, with one frame, and the second has the seven that are left
pub align_minus_zero : AlignSays (states two_three one-one ones) 1 (minus_zero ∷ number 8 ∷ []) sevens nines (Ok (record { states = 2; changes = 0 })) (1 ∷ 7 ∷ 7 ∷ []) cleared
unfolding work_of any_none refusal_of_shortest refusal_of_lists refusal_of_labels groups refusal_along refusal_of fit_along naturals neg le eq refusal_to fit_to settle step keys key_of least_of cost_below abs_of total start_of estimates build rounded_of sum_of fold_from pairs_of of_bits of_int add sub mul div lt is_nan
align_minus_zero = record { answer = refl; output = refl; workspace = refl }

-- the others leave both states to the second end
pub align_least_below : AlignSays (states two_three one-one ones) 1 (least-below ∷ number 8 ∷ []) sevens nines (Ok (record { states = 2; changes = 1 })) (3 ∷ 5 ∷ 7 ∷ []) cleared
unfolding work_of any_none refusal_of_shortest refusal_of_lists refusal_of_labels groups refusal_along refusal_of fit_along naturals neg le eq refusal_to fit_to settle step keys key_of least_of cost_below abs_of total start_of estimates build rounded_of sum_of fold_from pairs_of of_bits of_int add sub mul div lt is_nan
align_least_below = record { answer = refl; output = refl; workspace = refl }

pub align_nan : AlignSays (states two_three one-one ones) 1 (nan ∷ number 8 ∷ []) sevens nines (Ok (record { states = 2; changes = 1 })) (3 ∷ 5 ∷ 7 ∷ []) cleared
unfolding work_of any_none refusal_of_shortest refusal_of_lists refusal_of_labels groups refusal_along refusal_of fit_along naturals neg le eq refusal_to fit_to settle step keys key_of least_of cost_below abs_of total start_of estimates build rounded_of sum_of fold_from pairs_of of_bits of_int add sub mul div lt is_nan
align_nan = record { answer = refl; output = refl; workspace = refl }

-- ---- a group whose target is not above its count: two labels of two states each

abbrev means : List Float
means = number 2 ∷ number 3 ∷ two_three

abbrev varis : List Float
varis = number 1 ∷ number 1 ∷ one-one

abbrev four-ones : List ℕ
four-ones = 1 ∷ 1 ∷ ones

abbrev output : List ℕ
output = 7 ∷ 7 ∷ sevens

abbrev workspace : List ℕ
workspace = 9 ∷ 9 ∷ nines

abbrev all-cleared : List ℕ
all-cleared = 0 ∷ 0 ∷ cleared

-- an end of 1 gives two frames all the same, and so the second group has 10 - 2
pub end_below_count : AlignSays (states means varis four-ones) 2 (number 1 ∷ number 10 ∷ []) output workspace (Ok (record { states = 4; changes = 1 })) (1 ∷ 1 ∷ 3 ∷ 5 ∷ 7 ∷ []) all-cleared
unfolding work_of any_none refusal_of_shortest refusal_of_lists refusal_of_labels groups refusal_along refusal_of fit_along naturals neg le eq refusal_to fit_to settle step keys key_of least_of cost_below abs_of total start_of estimates build rounded_of sum_of fold_from pairs_of of_bits of_int add sub mul div lt is_nan
end_below_count = record { answer = refl; output = refl; workspace = refl }

-- an end of 2 is at the count
pub end_at_count : AlignSays (states means varis four-ones) 2 (number 2 ∷ number 10 ∷ []) output workspace (Ok (record { states = 4; changes = 1 })) (1 ∷ 1 ∷ 3 ∷ 5 ∷ 7 ∷ []) all-cleared
unfolding work_of any_none refusal_of_shortest refusal_of_lists refusal_of_labels groups refusal_along refusal_of fit_along naturals neg le eq refusal_to fit_to settle step keys key_of least_of cost_below abs_of total start_of estimates build rounded_of sum_of fold_from pairs_of of_bits of_int add sub mul div lt is_nan
end_at_count = record { answer = refl; output = refl; workspace = refl }

-- an end of 3 is above it
pub end_above_count : AlignSays (states means varis four-ones) 2 (number 3 ∷ number 11 ∷ []) output workspace (Ok (record { states = 4; changes = 1 })) (1 ∷ 2 ∷ 3 ∷ 5 ∷ 7 ∷ []) all-cleared
unfolding work_of any_none refusal_of_shortest refusal_of_lists refusal_of_labels groups refusal_along refusal_of fit_along naturals neg le eq refusal_to fit_to settle step keys key_of least_of cost_below abs_of total start_of estimates build rounded_of sum_of fold_from pairs_of of_bits of_int add sub mul div lt is_nan
end_above_count = record { answer = refl; output = refl; workspace = refl }

-- the second end is before the first: its target is -4, and so 1
pub end_passed : AlignSays (states means varis four-ones) 2 (number 8 ∷ number 4 ∷ []) output workspace (Ok (record { states = 4; changes = 1 })) (3 ∷ 5 ∷ 1 ∷ 1 ∷ 7 ∷ []) all-cleared
unfolding work_of any_none refusal_of_shortest refusal_of_lists refusal_of_labels groups refusal_along refusal_of fit_along naturals neg le eq refusal_to fit_to settle step keys key_of least_of cost_below abs_of total start_of estimates build rounded_of sum_of fold_from pairs_of of_bits of_int add sub mul div lt is_nan
end_passed = record { answer = refl; output = refl; workspace = refl }

-- ---- no drift: four labels of one state each

-- 2.4, 4.8, 7.2 and 9.6: each label has 2.4 frames, which alone would be 2; the totals are 2, 5, 7 and 10
pub chapter_on_time : AlignSays (states means varis four-ones) 1 (of_bits binary64 0x4003_3333_3333_3333 ∷ of_bits binary64 0x4013_3333_3333_3333 ∷ of_bits binary64 0x401c_cccc_cccc_cccd ∷ of_bits binary64 0x4023_3333_3333_3333 ∷ []) output workspace (Ok (record { states = 4; changes = 0 })) (2 ∷ 3 ∷ 2 ∷ 3 ∷ 7 ∷ []) all-cleared
unfolding work_of any_none refusal_of_shortest refusal_of_lists refusal_of_labels groups refusal_along refusal_of fit_along naturals neg le eq refusal_to fit_to settle step keys key_of least_of cost_below abs_of total start_of estimates build rounded_of sum_of fold_from pairs_of of_bits of_int add sub mul div lt is_nan
chapter_on_time = record { answer = refl; output = refl; workspace = refl }

-- 2.5, 2.6, 2.7 and 7.5: the second and the third have no room, so their totals are 4 and 5; the fourth's is right again, 8
pub chapter_right_again : AlignSays (states means varis four-ones) 1 (halves 5 ∷ of_bits binary64 0x4004_cccc_cccc_cccd ∷ of_bits binary64 0x4005_9999_9999_999a ∷ halves 15 ∷ []) output workspace (Ok (record { states = 4; changes = 0 })) (3 ∷ 1 ∷ 1 ∷ 3 ∷ 7 ∷ []) all-cleared
unfolding work_of any_none refusal_of_shortest refusal_of_lists refusal_of_labels groups refusal_along refusal_of fit_along naturals neg le eq refusal_to fit_to settle step keys key_of least_of cost_below abs_of total start_of estimates build rounded_of sum_of fold_from pairs_of of_bits of_int add sub mul div lt is_nan
chapter_right_again = record { answer = refl; output = refl; workspace = refl }

-- an end rounded: 2.5 goes up, the float below it down, and -0 is 0; a tie is as far as the claim allows
pub end-rounded : (end_rounded (halves 5) ≡ 3) × (end_rounded (of_bits binary64 0x4003_ffff_ffff_ffff) ≡ 2) × (end_rounded minus_zero ≡ 0) × (2 * gap (3 * 2) 5 ≡ 2)
unfolding nearest_half of_bits
end-rounded = (refl, refl, refl, refl)

-- 6.5 less 2 ^ -80, which no f64 is: 5 frames are taken off it with an error, and the total is 7, where 6 is the nearest
abbrev near_tie : Float
near_tie = fin false (13 * 2 ^ 79 - 1) (negsuc 79)

pub beyond_f64 : AlignSays (states two_three one-one ones) 1 (number 5 ∷ near_tie ∷ []) sevens nines (Ok (record { states = 2; changes = 0 })) (5 ∷ 2 ∷ 7 ∷ []) cleared × (end_rounded near_tie ≡ 6)
unfolding work_of any_none refusal_of_shortest refusal_of_lists refusal_of_labels groups refusal_along refusal_of fit_along naturals neg le eq refusal_to fit_to settle step keys key_of least_of cost_below abs_of total start_of estimates build rounded_of sum_of fold_from pairs_of of_bits of_int add sub mul div lt is_nan nearest_half
beyond_f64 = (record { answer = refl; output = refl; workspace = refl }, refl)

-- labels of two states with the ends 8, open, open and 20: the last closes the six states of three labels
abbrev open_between : List Float
open_between = number 8 ∷ unset ∷ nan ∷ number 20 ∷ []

pub closed-states : (closed_before 2 open_between 0 ≡ 0) × (closed_before 2 open_between 1 ≡ 2) × (closed_before 2 open_between 3 ≡ 2) × (group_states 2 open_between 3 ≡ 6) × (closed_before 2 open_between 4 ≡ 8)
unfolding closed_before le neg of_int of_bits
closed-states = (refl, refl, refl, refl, refl)

-- what the statement shuts out: lengths that are rounded one by one, 2 and 2 for 2.4 and 4.8
pub naive_drifts : NoDrift 1 (of_bits binary64 0x4003_3333_3333_3333 ∷ of_bits binary64 0x4013_3333_3333_3333 ∷ []) ones (2 ∷ 2 ∷ []) → ⊥
unfolding closed_before le of_bits nearest_half total
naive_drifts d = let r : ◌≡◌ {A = ℕ} 4 5 = (d 1 (omega arith) refl).larger in omega arith

-- lateness that is carried on: the totals 8, 10 and 21 for 8, 4 and 20
pub lateness_carried : NoDrift 2 (number 8 ∷ number 4 ∷ number 20 ∷ []) (1 ∷ 1 ∷ four-ones) (4 ∷ 4 ∷ 1 ∷ 1 ∷ 5 ∷ 6 ∷ []) → ⊥
unfolding closed_before le of_int of_bits nearest_half total
lateness_carried d = let r : ◌≡◌ {A = ℕ} 21 20 = (d 2 (omega arith) refl).larger in omega arith

-- a half that goes down
pub half_down : NoDrift 1 (halves 5 ∷ []) (1 ∷ []) (2 ∷ []) → ⊥
unfolding closed_before le of_bits nearest_half total
half_down d = let r : ◌≡◌ {A = ℕ} 2 3 = (d 0 (omega arith) refl).larger in omega arith

-- ---- the tail

-- with no given end every state is natural
pub all_open : AlignSays (states two_three one-one ones) 1 (unset ∷ nan ∷ []) sevens nines (Ok (record { states = 2; changes = 0 })) (2 ∷ 3 ∷ 7 ∷ []) cleared
unfolding work_of any_none refusal_of_shortest refusal_of_lists refusal_of_labels groups refusal_along refusal_of fit_along naturals neg le eq refusal_to fit_to settle step keys key_of least_of cost_below abs_of total start_of estimates build rounded_of sum_of fold_from pairs_of of_bits of_int add sub mul div lt is_nan
all_open = record { answer = refl; output = refl; workspace = refl }

-- with no label the answer is empty
pub no_label : AlignSays (states [] [] []) 1 [] sevens nines (Ok (record { states = 0; changes = 0 })) sevens nines
unfolding work_of any_none refusal_of_shortest refusal_of_lists refusal_of_labels groups refusal_along refusal_of fit_along naturals neg le eq refusal_to fit_to settle step keys key_of least_of cost_below abs_of total start_of estimates build rounded_of sum_of fold_from pairs_of of_bits of_int add sub mul div lt is_nan
no_label = record { answer = refl; output = refl; workspace = refl }

-- two labels of two states each: the first group is fitted, the tail is not
pub tail_natural : AlignSays (states means varis four-ones) 2 (number 8 ∷ unset ∷ []) output workspace (Ok (record { states = 4; changes = 1 })) (3 ∷ 5 ∷ 2 ∷ 3 ∷ 7 ∷ []) all-cleared
unfolding work_of any_none refusal_of_shortest refusal_of_lists refusal_of_labels groups refusal_along refusal_of fit_along naturals neg le eq refusal_to fit_to settle step keys key_of least_of cost_below abs_of total start_of estimates build rounded_of sum_of fold_from pairs_of of_bits of_int add sub mul div lt is_nan
tail_natural = record { answer = refl; output = refl; workspace = refl }

-- its estimate is the mean plus 0 times the variance: of an infinite one that is NaN, and so 1
pub tail_infinite : AlignSays (states two_three (number 1 ∷ inf false ∷ []) ones) 1 (number 4 ∷ unset ∷ []) sevens nines (Ok (record { states = 2; changes = 0 })) (4 ∷ 1 ∷ 7 ∷ []) cleared
unfolding work_of any_none refusal_of_shortest refusal_of_lists refusal_of_labels groups refusal_along refusal_of fit_along naturals neg le eq refusal_to fit_to settle step keys key_of least_of cost_below abs_of total start_of estimates build rounded_of sum_of fold_from pairs_of of_bits of_int add sub mul div lt is_nan
tail_infinite = record { answer = refl; output = refl; workspace = refl }

-- the tail begins behind the last given end, whatever is open before it
pub tail_from : last_from (groups 2 0 0 (unset ∷ number 4 ∷ unset ∷ [])) ≡ 4
unfolding last_from groups neg le of_bits of_int
tail_from = refl

-- at the first state where no end is given, and behind the last where the last label has one
pub tail_from_first : last_from (groups 2 0 0 (unset ∷ unset ∷ [])) ≡ 0
unfolding last_from groups neg le of_bits of_int
tail_from_first = refl

pub tail_from_last : last_from (groups 2 0 0 (unset ∷ number 4 ∷ [])) ≡ 4
unfolding last_from groups neg le of_bits of_int
tail_from_last = refl

-- two states of so many frames and one
abbrev frames_and_one : ℕ → List Float
frames_and_one n = number n ∷ number 1 ∷ []

-- a tail of 65,536 frames, and of one more
pub tail-most : AlignSays (states (frames_and_one 65535) one-one ones) 2 (unset ∷ []) sevens nines (Ok (record { states = 2; changes = 0 })) (65535 ∷ 1 ∷ 7 ∷ []) cleared
unfolding work_of any_none refusal_of_shortest refusal_of_lists refusal_of_labels groups refusal_along refusal_of fit_along naturals neg le eq refusal_to fit_to settle step keys key_of least_of cost_below abs_of total start_of estimates build rounded_of sum_of fold_from pairs_of of_bits of_int add sub mul div lt is_nan
tail-most = record { answer = refl; output = refl; workspace = refl }

pub tail-over : AlignSays (states (frames_and_one 65536) one-one ones) 2 (unset ∷ []) sevens nines (Err EstimateTooLong) sevens cleared
unfolding work_of any_none refusal_of_shortest refusal_of_lists refusal_of_labels groups refusal_along refusal_of fit_along naturals neg le eq refusal_to fit_to settle step keys key_of least_of cost_below abs_of total start_of estimates build rounded_of sum_of fold_from pairs_of of_bits of_int add sub mul div lt is_nan
tail-over = record { answer = refl; output = refl; workspace = refl }

-- the same behind a group
pub total-most : AlignSays (states two_three one-one ones) 1 (number 65533 ∷ unset ∷ []) sevens nines (Ok (record { states = 2; changes = 0 })) (65533 ∷ 3 ∷ 7 ∷ []) cleared
unfolding work_of any_none refusal_of_shortest refusal_of_lists refusal_of_labels groups refusal_along refusal_of fit_along naturals neg le eq refusal_to fit_to settle step keys key_of least_of cost_below abs_of total start_of estimates build rounded_of sum_of fold_from pairs_of of_bits of_int add sub mul div lt is_nan
total-most = record { answer = refl; output = refl; workspace = refl }

pub total-over : AlignSays (states two_three one-one ones) 1 (number 65534 ∷ unset ∷ []) sevens nines (Err EstimateTooLong) sevens cleared
unfolding work_of any_none refusal_of_shortest refusal_of_lists refusal_of_labels groups refusal_along refusal_of fit_along naturals neg le eq refusal_to fit_to settle step keys key_of least_of cost_below abs_of total start_of estimates build rounded_of sum_of fold_from pairs_of of_bits of_int add sub mul div lt is_nan
total-over = record { answer = refl; output = refl; workspace = refl }

-- a group's target is found before a tail that is too long
pub target-before-tail : AlignSays (states (number 1 ∷ number 65537 ∷ []) one-one ones) 1 (inf false ∷ unset ∷ []) sevens nines (Err TargetTooLong) sevens cleared
unfolding work_of any_none refusal_of_shortest refusal_of_lists refusal_of_labels groups refusal_along refusal_of fit_along naturals neg le eq refusal_to fit_to settle step keys key_of least_of cost_below abs_of total start_of estimates build rounded_of sum_of fold_from pairs_of of_bits of_int add sub mul div lt is_nan
target-before-tail = record { answer = refl; output = refl; workspace = refl }

-- ---- 7 and 8: the first in the work order, whatever would come after it

-- an end of 65,536 gives 8, and an endless one 7
pub estimate_alone : AlignSays (states means varis four-ones) 2 (unset ∷ number 65536 ∷ []) output workspace (Err EstimateTooLong) output all-cleared
unfolding work_of any_none refusal_of_shortest refusal_of_lists refusal_of_labels groups refusal_along refusal_of fit_along naturals neg le eq refusal_to fit_to settle step keys key_of least_of cost_below abs_of total start_of estimates build rounded_of sum_of fold_from pairs_of of_bits of_int add sub mul div lt is_nan
estimate_alone = record { answer = refl; output = refl; workspace = refl }

pub target-alone : AlignSays (states means varis four-ones) 2 (unset ∷ inf false ∷ []) output workspace (Err TargetTooLong) output all-cleared
unfolding work_of any_none refusal_of_shortest refusal_of_lists refusal_of_labels groups refusal_along refusal_of fit_along naturals neg le eq refusal_to fit_to settle step keys key_of least_of cost_below abs_of total start_of estimates build rounded_of sum_of fold_from pairs_of of_bits of_int add sub mul div lt is_nan
target-alone = record { answer = refl; output = refl; workspace = refl }

-- one after the other
pub estimate_first : AlignSays (states means varis four-ones) 2 (number 65536 ∷ inf false ∷ []) output workspace (Err EstimateTooLong) output all-cleared
unfolding work_of any_none refusal_of_shortest refusal_of_lists refusal_of_labels groups refusal_along refusal_of fit_along naturals neg le eq refusal_to fit_to settle step keys key_of least_of cost_below abs_of total start_of estimates build rounded_of sum_of fold_from pairs_of of_bits of_int add sub mul div lt is_nan
estimate_first = record { answer = refl; output = refl; workspace = refl }

pub target_first : AlignSays (states means varis four-ones) 2 (inf false ∷ number 65536 ∷ []) output workspace (Err TargetTooLong) output all-cleared
unfolding work_of any_none refusal_of_shortest refusal_of_lists refusal_of_labels groups refusal_along refusal_of fit_along naturals neg le eq refusal_to fit_to settle step keys key_of least_of cost_below abs_of total start_of estimates build rounded_of sum_of fold_from pairs_of of_bits of_int add sub mul div lt is_nan
target_first = record { answer = refl; output = refl; workspace = refl }

-- one state fills all 65,536 frames, so the second's one frame gives 8 before the third's target gives 7
pub total_first : AlignSays (states means varis four-ones) 1 (number 65536 ∷ number 65536 ∷ inf false ∷ unset ∷ []) output workspace (Err EstimateTooLong) output all-cleared
unfolding work_of any_none refusal_of_shortest refusal_of_lists refusal_of_labels groups refusal_along refusal_of fit_along naturals neg le eq refusal_to fit_to settle step keys key_of least_of cost_below abs_of total start_of estimates build rounded_of sum_of fold_from pairs_of of_bits of_int add sub mul div lt is_nan
total_first = record { answer = refl; output = refl; workspace = refl }

-- and where the second's own target is too large, that is found before the total
pub target-before-total : AlignSays (states means varis four-ones) 1 (number 65536 ∷ inf false ∷ unset ∷ unset ∷ []) output workspace (Err TargetTooLong) output all-cleared
unfolding work_of any_none refusal_of_shortest refusal_of_lists refusal_of_labels groups refusal_along refusal_of fit_along naturals neg le eq refusal_to fit_to settle step keys key_of least_of cost_below abs_of total start_of estimates build rounded_of sum_of fold_from pairs_of of_bits of_int add sub mul div lt is_nan
target-before-total = record { answer = refl; output = refl; workspace = refl }

-- two states of 40,000 frames, fitted to twice as many
abbrev long : List Float
long = number 40000 ∷ number 40000 ∷ []

pub long-target : FitSays (states long one-one ones) (number 160000) sevens nines (Err TargetTooLong) sevens cleared
unfolding work_of any_none refusal_of_shortest refusal_of_lists refusal_of_labels groups refusal_along refusal_of fit_along naturals neg le eq refusal_to fit_to settle step keys key_of least_of cost_below abs_of total start_of estimates build rounded_of sum_of fold_from pairs_of of_bits of_int add sub mul div lt is_nan
long-target = record { answer = refl; output = refl; workspace = refl }

-- at half the speed their first estimate gives 8 before that target does
pub speed_estimate_first : SpeedSays (states long one-one ones) (halves 1) sevens nines (Err EstimateTooLong) sevens cleared
unfolding work_of any_none refusal_of_shortest refusal_of_lists refusal_at fit_at target_at naturals eq refusal_to fit_to settle step keys key_of least_of cost_below abs_of total start_of estimates build rounded_of sum_of fold_from pairs_of of_bits of_int add sub mul div lt is_nan
speed_estimate_first = record { answer = refl; output = refl; workspace = refl }

-- at 2 ^ -14 five frames become 81,920, which are too many before they are estimated
pub speed_target_first : SpeedSays (states two_three one-one ones) (fin false 1 (negsuc 13)) sevens nines (Err TargetTooLong) sevens cleared
unfolding work_of any_none refusal_of_shortest refusal_of_lists refusal_at fit_at target_at naturals eq refusal_to fit_to settle step keys key_of least_of cost_below abs_of total start_of estimates build rounded_of sum_of fold_from pairs_of of_bits of_int add sub mul div lt is_nan
speed_target_first = record { answer = refl; output = refl; workspace = refl }

-- ---- shortest durations

-- estimates of 4 and 5 are above their shortest, and the first gives a frame, as in case 1
pub shortest_stay : FitSays (states two_three one-one (3 ∷ 1 ∷ [])) (number 8) sevens nines (Ok 1) (3 ∷ 5 ∷ 7 ∷ []) cleared
unfolding work_of any_none refusal_of_shortest refusal_of_lists refusal_to fit_to settle step keys key_of least_of cost_below abs_of total start_of estimates build rounded_of sum_of fold_from pairs_of of_bits of_int add sub mul div lt is_nan
shortest_stay = record { answer = refl; output = refl; workspace = refl }

-- at its shortest it gives none, and the second does
pub shortest_gives_nothing : FitSays (states two_three one-one (4 ∷ 1 ∷ [])) (number 8) sevens nines (Ok 1) (4 ∷ 4 ∷ 7 ∷ []) cleared
unfolding work_of any_none refusal_of_shortest refusal_of_lists refusal_to fit_to settle step keys key_of least_of cost_below abs_of total start_of estimates build rounded_of sum_of fold_from pairs_of of_bits of_int add sub mul div lt is_nan
shortest_gives_nothing = record { answer = refl; output = refl; workspace = refl }

-- a target one below the sum of the shortest, at it, and one above it, where the first is estimated 3 for 2, and so the second gives one of its 3 frames
pub target_below_shortest : FitSays (states two_three one-one (3 ∷ 1 ∷ [])) (number 3) sevens nines (Ok 0) (3 ∷ 1 ∷ 7 ∷ []) cleared
unfolding work_of any_none refusal_of_shortest refusal_of_lists refusal_to fit_to settle step keys key_of least_of cost_below abs_of total start_of estimates build rounded_of sum_of fold_from pairs_of of_bits of_int add sub mul div lt is_nan
target_below_shortest = record { answer = refl; output = refl; workspace = refl }

pub target_at_shortest : FitSays (states two_three one-one (3 ∷ 1 ∷ [])) (number 4) sevens nines (Ok 0) (3 ∷ 1 ∷ 7 ∷ []) cleared
unfolding work_of any_none refusal_of_shortest refusal_of_lists refusal_to fit_to settle step keys key_of least_of cost_below abs_of total start_of estimates build rounded_of sum_of fold_from pairs_of of_bits of_int add sub mul div lt is_nan
target_at_shortest = record { answer = refl; output = refl; workspace = refl }

pub target_above_shortest : FitSays (states two_three one-one (3 ∷ 1 ∷ [])) (number 5) sevens nines (Ok 1) (3 ∷ 2 ∷ 7 ∷ []) cleared
unfolding work_of any_none refusal_of_shortest refusal_of_lists refusal_to fit_to settle step keys key_of least_of cost_below abs_of total start_of estimates build rounded_of sum_of fold_from pairs_of of_bits of_int add sub mul div lt is_nan
target_above_shortest = record { answer = refl; output = refl; workspace = refl }

-- natural durations are estimates too: 4 for 2; at half the speed their 7 frames become 14, where 2 and 3 become 10
pub speed_raised : SpeedSays (states two_three one-one (4 ∷ 1 ∷ [])) (number 1) sevens nines (Ok 0) (4 ∷ 3 ∷ 7 ∷ []) cleared
unfolding work_of any_none refusal_of_shortest refusal_of_lists refusal_at fit_at target_at naturals eq refusal_to fit_to settle step keys key_of least_of cost_below abs_of total start_of estimates build rounded_of sum_of fold_from pairs_of of_bits of_int add sub mul div lt is_nan
speed_raised = record { answer = refl; output = refl; workspace = refl }

pub speed_raised_half : SpeedSays (states two_three one-one (4 ∷ 1 ∷ [])) (halves 1) sevens nines (Ok 1) (6 ∷ 8 ∷ 7 ∷ []) cleared
unfolding work_of any_none refusal_of_shortest refusal_of_lists refusal_at fit_at target_at naturals eq refusal_to fit_to settle step keys key_of least_of cost_below abs_of total start_of estimates build rounded_of sum_of fold_from pairs_of of_bits of_int add sub mul div lt is_nan
speed_raised_half = record { answer = refl; output = refl; workspace = refl }

-- at speed 2 their 5 become 3, below the sum of the shortest
pub speed_below_shortest : SpeedSays (states two_three one-one (2 ∷ 2 ∷ [])) (number 2) sevens nines (Ok 0) (2 ∷ 2 ∷ 7 ∷ []) cleared
unfolding work_of any_none refusal_of_shortest refusal_of_lists refusal_at fit_at target_at naturals eq refusal_to fit_to settle step keys key_of least_of cost_below abs_of total start_of estimates build rounded_of sum_of fold_from pairs_of of_bits of_int add sub mul div lt is_nan
speed_below_shortest = record { answer = refl; output = refl; workspace = refl }

-- ---- shortest durations that are refused

-- one of 0, the last one too; a sum of 65,537, and one of 65,536, which is taken
pub shortest_none : FitSays (states two_three one-one (0 ∷ 1 ∷ [])) (number 8) sevens nines (Err BadShortest) sevens nines
unfolding work_of any_none refusal_of_shortest refusal_of_lists refusal_to fit_to settle step keys key_of least_of cost_below abs_of total start_of estimates build rounded_of sum_of fold_from pairs_of of_bits of_int add sub mul div lt is_nan
shortest_none = record { answer = refl; output = refl; workspace = refl }

pub shortest_none_last : FitSays (states two_three one-one (1 ∷ 0 ∷ [])) (number 8) sevens nines (Err BadShortest) sevens nines
unfolding work_of any_none refusal_of_shortest refusal_of_lists refusal_to fit_to settle step keys key_of least_of cost_below abs_of total start_of estimates build rounded_of sum_of fold_from pairs_of of_bits of_int add sub mul div lt is_nan
shortest_none_last = record { answer = refl; output = refl; workspace = refl }

pub shortest_over : FitSays (states two_three one-one (65536 ∷ 1 ∷ [])) (number 8) sevens nines (Err BadShortest) sevens nines
unfolding work_of any_none refusal_of_shortest refusal_of_lists refusal_to fit_to settle step keys key_of least_of cost_below abs_of total start_of estimates build rounded_of sum_of fold_from pairs_of of_bits of_int add sub mul div lt is_nan
shortest_over = record { answer = refl; output = refl; workspace = refl }

pub shortest_most : FitSays (states two_three one-one (65535 ∷ 1 ∷ [])) (number 8) sevens nines (Ok 0) (65535 ∷ 1 ∷ 7 ∷ []) cleared
unfolding work_of any_none refusal_of_shortest refusal_of_lists refusal_to fit_to settle step keys key_of least_of cost_below abs_of total start_of estimates build rounded_of sum_of fold_from pairs_of of_bits of_int add sub mul div lt is_nan
shortest_most = record { answer = refl; output = refl; workspace = refl }

-- 15 comes before 7, and so the work space is as it was; before 8 of a first estimate; and before both of an alignment
pub shortest_before_target : FitSays (states two_three one-one (0 ∷ 1 ∷ [])) (halves 131073) sevens nines (Err BadShortest) sevens nines
unfolding work_of any_none refusal_of_shortest refusal_of_lists refusal_to fit_to settle step keys key_of least_of cost_below abs_of total start_of estimates build rounded_of sum_of fold_from pairs_of of_bits of_int add sub mul div lt is_nan
shortest_before_target = record { answer = refl; output = refl; workspace = refl }

pub shortest_before_estimate : SpeedSays (states long one-one (0 ∷ 1 ∷ [])) (number 1) sevens nines (Err BadShortest) sevens nines
unfolding work_of any_none refusal_of_shortest refusal_of_lists refusal_at fit_at target_at naturals eq refusal_to fit_to settle step keys key_of least_of cost_below abs_of total start_of estimates build rounded_of sum_of fold_from pairs_of of_bits of_int add sub mul div lt is_nan
shortest_before_estimate = record { answer = refl; output = refl; workspace = refl }

pub shortest_before_ends : AlignSays (states two_three one-one (1 ∷ 0 ∷ [])) 1 (inf false ∷ number 65536 ∷ []) sevens nines (Err BadShortest) sevens nines
unfolding work_of any_none refusal_of_shortest refusal_of_lists refusal_of_labels groups refusal_along refusal_of fit_along naturals neg le eq refusal_to fit_to settle step keys key_of least_of cost_below abs_of total start_of estimates build rounded_of sum_of fold_from pairs_of of_bits of_int add sub mul div lt is_nan
shortest_before_ends = record { answer = refl; output = refl; workspace = refl }

-- and after 6, for the output and for the work space, after 4, for a shortest too few and for a variance too few, and after 3, for labels of no state
pub room_before_shortest : FitSays (states two_three one-one (0 ∷ 1 ∷ [])) (number 8) (7 ∷ []) nines (Err TooLittleRoom) (7 ∷ []) nines
unfolding work_of any_none refusal_of_shortest refusal_of_lists refusal_to fit_to settle step keys key_of least_of cost_below abs_of total start_of estimates build rounded_of sum_of fold_from pairs_of of_bits of_int add sub mul div lt is_nan
room_before_shortest = record { answer = refl; output = refl; workspace = refl }

pub work_before_shortest : FitSays (states two_three one-one (0 ∷ 1 ∷ [])) (number 8) sevens (9 ∷ []) (Err TooLittleRoom) sevens (9 ∷ [])
unfolding work_of any_none refusal_of_shortest refusal_of_lists refusal_to fit_to settle step keys key_of least_of cost_below abs_of total start_of estimates build rounded_of sum_of fold_from pairs_of of_bits of_int add sub mul div lt is_nan
work_before_shortest = record { answer = refl; output = refl; workspace = refl }

pub count_before_shortest : FitSays (states two_three one-one (0 ∷ [])) (number 8) sevens nines (Err ListsDisagree) sevens nines
unfolding work_of any_none refusal_of_shortest refusal_of_lists refusal_to fit_to settle step keys key_of least_of cost_below abs_of total start_of estimates build rounded_of sum_of fold_from pairs_of of_bits of_int add sub mul div lt is_nan
count_before_shortest = record { answer = refl; output = refl; workspace = refl }

pub varis_before_shortest : FitSays (states two_three (number 1 ∷ []) (0 ∷ 1 ∷ [])) (number 8) sevens nines (Err ListsDisagree) sevens nines
unfolding work_of any_none refusal_of_shortest refusal_of_lists refusal_to fit_to settle step keys key_of least_of cost_below abs_of total start_of estimates build rounded_of sum_of fold_from pairs_of of_bits of_int add sub mul div lt is_nan
varis_before_shortest = record { answer = refl; output = refl; workspace = refl }

pub width_before_shortest : AlignSays (states two_three one-one (0 ∷ 1 ∷ [])) 0 (number 8 ∷ []) sevens nines (Err BadSize) sevens nines
unfolding work_of any_none refusal_of_shortest refusal_of_lists refusal_of_labels groups refusal_along refusal_of fit_along naturals neg le eq refusal_to fit_to settle step keys key_of least_of cost_below abs_of total start_of estimates build rounded_of sum_of fold_from pairs_of of_bits of_int add sub mul div lt is_nan
width_before_shortest = record { answer = refl; output = refl; workspace = refl }

-- ---- shortest durations along ends

-- an end of 4 is below the first group's 3 + 2, so it is a frame late; the second group has 13 - 5, and is right again
pub late_by_shortest : AlignSays (states means varis (3 ∷ 2 ∷ 1 ∷ 1 ∷ [])) 2 (number 4 ∷ number 13 ∷ []) output workspace (Ok (record { states = 4; changes = 1 })) (3 ∷ 2 ∷ 3 ∷ 5 ∷ 7 ∷ []) all-cleared
unfolding work_of any_none refusal_of_shortest refusal_of_lists refusal_of_labels groups refusal_along refusal_of fit_along naturals neg le eq refusal_to fit_to settle step keys key_of least_of cost_below abs_of total start_of estimates build rounded_of sum_of fold_from pairs_of of_bits of_int add sub mul div lt is_nan
late_by_shortest = record { answer = refl; output = refl; workspace = refl }

-- a tail is estimated too: 5 for 3
pub tail_raised : AlignSays (states two_three one-one (1 ∷ 5 ∷ [])) 1 (number 4 ∷ unset ∷ []) sevens nines (Ok (record { states = 2; changes = 0 })) (4 ∷ 5 ∷ 7 ∷ []) cleared
unfolding work_of any_none refusal_of_shortest refusal_of_lists refusal_of_labels groups refusal_along refusal_of fit_along naturals neg le eq refusal_to fit_to settle step keys key_of least_of cost_below abs_of total start_of estimates build rounded_of sum_of fold_from pairs_of of_bits of_int add sub mul div lt is_nan
tail_raised = record { answer = refl; output = refl; workspace = refl }

-- and is refused with the group before it where both are too long; so is a group whose end gives it less than its shortest
pub tail_raised_over : AlignSays (states two_three one-one (1 ∷ 30000 ∷ [])) 1 (number 40000 ∷ unset ∷ []) sevens nines (Err EstimateTooLong) sevens cleared
unfolding work_of any_none refusal_of_shortest refusal_of_lists refusal_of_labels groups refusal_along refusal_of fit_along naturals neg le eq refusal_to fit_to settle step keys key_of least_of cost_below abs_of total start_of estimates build rounded_of sum_of fold_from pairs_of of_bits of_int add sub mul div lt is_nan
tail_raised_over = record { answer = refl; output = refl; workspace = refl }

pub total_by_shortest : AlignSays (states two_three one-one (30000 ∷ 30000 ∷ [])) 1 (number 40000 ∷ number 50000 ∷ []) sevens nines (Err EstimateTooLong) sevens cleared
unfolding work_of any_none refusal_of_shortest refusal_of_lists refusal_of_labels groups refusal_along refusal_of fit_along naturals neg le eq refusal_to fit_to settle step keys key_of least_of cost_below abs_of total start_of estimates build rounded_of sum_of fold_from pairs_of of_bits of_int add sub mul div lt is_nan
total_by_shortest = record { answer = refl; output = refl; workspace = refl }

-- each group's shortest are within 65,536 frames, but not those of all states
pub shortest_of_all_groups : AlignSays (states two_three one-one (40000 ∷ 40000 ∷ [])) 1 (number 4 ∷ number 8 ∷ []) sevens nines (Err BadShortest) sevens nines
unfolding work_of any_none refusal_of_shortest refusal_of_lists refusal_of_labels groups refusal_along refusal_of fit_along naturals neg le eq refusal_to fit_to settle step keys key_of least_of cost_below abs_of total start_of estimates build rounded_of sum_of fold_from pairs_of of_bits of_int add sub mul div lt is_nan
shortest_of_all_groups = record { answer = refl; output = refl; workspace = refl }

-- what the statement of no drift shuts out: a frame a state, where the shortest are 3 and 2
pub late_by_count : NoDrift 2 (number 1 ∷ []) (3 ∷ 2 ∷ []) (1 ∷ 1 ∷ []) → ⊥
unfolding closed_before le of_int of_bits nearest_half total
late_by_count d = let r : ◌≡◌ {A = ℕ} 2 5 = (d 0 (omega arith) refl).larger in omega arith
