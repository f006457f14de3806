-- The rules' worked job, and departures from it, computed.
use Rattle.std.specs.Prelude.{◌≡◌, refl, Err, List, [], ◌∷◌, ◌++◌, map, ℕ, set, take}
use Rattle.std.specs.Float.{binary64}
use Rattle.std.specs.Float.Ieee.{of_bits, to_bits, of_int, add, sub, mul, div, lt, eq, is_nan}
use Rattle.lists.specs.Sizes.{most_job_states}
use Rattle.lists.specs.Answers.{refusing_at}
use Rattle.lists.specs.Build.{build, fold_from}
use Rattle.lists.specs.Bytes.{little, bytes_of, alike}
use Rattle.lists.specs.Totals.{total}
use Rattle.floats.specs.Rounding.{rounded_of}
use Rattle.floats.specs.Order.{abs_of, cost_below}
use Rattle.model.specs.Pair.{pairs_of, sum_of}
use Rattle.floats.specs.Numbers.{number}
use Rattle.duration.specs.Shortest.{any_none, refusal_of_shortest}
use Rattle.duration.specs.Estimate.{estimates, naturals}
use Rattle.steps.specs.Steps.{key_of, keys, least_of, step, settle}
use Rattle.duration.specs.Fit.{start_of, fit_to, refusal_to}
use Rattle.duration.specs.Speed.{target_at, fit_at, refusal_at}
use Rattle.duration.specs.Promise.{work_of, refusal_of_lists}
use Rattle.job.specs.declared.Damage.TheVariants.{Mark, Version, Count, Length}
use Rattle.lists.specs.declared.Refusal.TheVariants.{BadShortest, TooLittleRoom}
use Rattle.job.specs.declared.Failure.TheVariants.{Damaged, Refused}
use Rattle.job.specs.Format.{floats_at, length_of, Job, numbers_behind, job_of}
use Rattle.job.specs.Damage.{sound, wrong, damage_of, old_number}
use Rattle.job.specs.Written.{bytes_of_states, bytes_of_heading, bytes_of_job}
use Rattle.job.specs.Promise.{answered, done, JobSays}

-- RULES, Job file: the worked job has the means 2 and 3, both variances 1, and speed 0.5; here with the shortest of its states
abbrev worked : List ℕ → Job
worked shortest = record { speed = of_bits binary64 0x3fe0_0000_0000_0000; means = number 2 ∷ number 3 ∷ []; varis = number 1 ∷ number 1 ∷ []; shortest = shortest }

abbrev pub bytes : List ℕ
bytes =
    83 ∷ 80 ∷ 74 ∷ 1 ∷ 0 ∷ 2 ∷ 0 ∷
    0 ∷ 0 ∷ 0 ∷ 0 ∷ 0 ∷ 0 ∷ 224 ∷ 63 ∷
    0 ∷ 0 ∷ 0 ∷ 0 ∷ 0 ∷ 0 ∷ 0 ∷ 64 ∷
    0 ∷ 0 ∷ 0 ∷ 0 ∷ 0 ∷ 0 ∷ 240 ∷ 63 ∷
    0 ∷ 0 ∷ 0 ∷ 0 ∷ 0 ∷ 0 ∷ 8 ∷ 64 ∷
    0 ∷ 0 ∷ 0 ∷ 0 ∷ 0 ∷ 0 ∷ 240 ∷ 63 ∷
    []

-- RULES, Job file: in version 2, the shortest 5 and 1 behind their pairs
abbrev pub bytes2 : List ℕ
bytes2 =
    83 ∷ 80 ∷ 74 ∷ 2 ∷ 0 ∷ 2 ∷ 0 ∷
    0 ∷ 0 ∷ 0 ∷ 0 ∷ 0 ∷ 0 ∷ 224 ∷ 63 ∷
    0 ∷ 0 ∷ 0 ∷ 0 ∷ 0 ∷ 0 ∷ 0 ∷ 64 ∷
    0 ∷ 0 ∷ 0 ∷ 0 ∷ 0 ∷ 0 ∷ 240 ∷ 63 ∷
    5 ∷ 0 ∷ 0 ∷ 0 ∷
    0 ∷ 0 ∷ 0 ∷ 0 ∷ 0 ∷ 0 ∷ 8 ∷ 64 ∷
    0 ∷ 0 ∷ 0 ∷ 0 ∷ 0 ∷ 0 ∷ 240 ∷ 63 ∷
    1 ∷ 0 ∷ 0 ∷ 0 ∷
    []

pub worked-bytes : (bytes_of_job 1 (worked (1 ∷ 1 ∷ [])) ≡ bytes) × (bytes_of_job 2 (worked (5 ∷ 1 ∷ [])) ≡ bytes2)
unfolding bytes_of_job bytes_of_heading bytes_of_states bytes_of to_bits of_bits of_int
worked-bytes = (refl, refl)

-- RULES, Job file: version 1 is read with ones, and a shortest with its least byte first
pub worked_read : (job_of bytes ≡ worked (1 ∷ 1 ∷ [])) × (job_of bytes2 ≡ worked (5 ∷ 1 ∷ [])) × ((job_of (set (set bytes2 34 1) 52 4)).shortest ≡ 16777221 ∷ 1025 ∷ [])
unfolding floats_at numbers_behind build little of_bits of_int
worked_read = (refl, refl, refl)

-- an output and a work space of three numbers
abbrev pub sevens : List ℕ
sevens = 7 ∷ 7 ∷ 7 ∷ []

abbrev pub nines : List ℕ
nines = 9 ∷ 9 ∷ 9 ∷ []

-- RULES, Job file: it comes to 2 states and 10 frames after 1 change: 4 and 6
pub worked_job : JobSays bytes sevens nines (done 2 10 1) (4 ∷ 6 ∷ 7 ∷ []) (0 ∷ 0 ∷ 9 ∷ [])
unfolding damage_of alike little floats_at build work_of any_none refusal_of_shortest refusal_of_lists refusal_at fit_at naturals target_at refusal_to fit_to settle step keys key_of least_of cost_below abs_of total start_of estimates rounded_of sum_of fold_from pairs_of of_bits of_int add sub mul div lt eq is_nan
worked_job = record { answer = refl; output = refl; workspace = refl }

-- so does version 2 where its shortest are ones
pub worked_job_2 : JobSays (set bytes2 31 1) sevens nines (done 2 10 1) (4 ∷ 6 ∷ 7 ∷ []) (0 ∷ 0 ∷ 9 ∷ [])
unfolding damage_of alike little floats_at numbers_behind build work_of any_none refusal_of_shortest refusal_of_lists refusal_at fit_at naturals target_at refusal_to fit_to settle step keys key_of least_of cost_below abs_of total start_of estimates rounded_of sum_of fold_from pairs_of of_bits of_int add sub mul div lt eq is_nan
worked_job_2 = record { answer = refl; output = refl; workspace = refl }

-- with its shortest, 5 and 1, the natural durations are 5 and 3, and half the speed asks for 16 frames; at speed 2 there are 4, which the shortest are above
pub worked_shortest :
    JobSays bytes2 sevens nines (done 2 16 1) (7 ∷ 9 ∷ 7 ∷ []) (0 ∷ 0 ∷ 9 ∷ []) × JobSays (set (set bytes2 13 0) 14 64) sevens nines (done 2 6 0) (5 ∷ 1 ∷ 7 ∷ []) (0 ∷ 0 ∷ 9 ∷ [])
unfolding damage_of alike little floats_at numbers_behind build work_of any_none refusal_of_shortest refusal_of_lists refusal_at fit_at naturals target_at refusal_to fit_to settle step keys key_of least_of cost_below abs_of total start_of estimates rounded_of sum_of fold_from pairs_of of_bits of_int add sub mul div lt eq is_nan
worked_shortest = (record { answer = refl; output = refl; workspace = refl }, record { answer = refl; output = refl; workspace = refl })

-- RULES, Refusals: a shortest of 0 is 15, and the work space is as it was
pub worked-unfit : JobSays (set bytes2 31 0) sevens nines (Err (Refused BadShortest)) sevens nines
unfolding damage_of alike little floats_at numbers_behind build work_of any_none refusal_of_shortest refusal_of_lists
worked-unfit = record { answer = refl; output = refl; workspace = refl }

-- room for one number where the job has two states
pub worked_no_room : JobSays bytes (7 ∷ []) nines (Err (Refused TooLittleRoom)) (7 ∷ []) nines
unfolding damage_of alike little floats_at build work_of any_none refusal_of_shortest refusal_of_lists
worked_no_room = record { answer = refl; output = refl; workspace = refl }

-- RULES, Job file: the third letter is another; nothing but the number and the place is told
pub wrong_letter : JobSays (set bytes 2 75) sevens nines (Err (Damaged Mark 2)) sevens nines
unfolding damage_of alike little work_of
wrong_letter = record { answer = refl; output = refl; workspace = refl }

-- RULES, Refusals: a damage goes before all others, here before 6: there is no room
pub wrong_letter_no_room : JobSays (set bytes 2 75) [] nines (Err (Damaged Mark 2)) [] nines
unfolding damage_of alike little work_of
wrong_letter_no_room = record { answer = refl; output = refl; workspace = refl }

-- RULES, Job file: of two wrong letters the first is told, and a wrong letter before a wrong version, that before a wrong count, that before a wrong length
pub first_by_place :
    (damage_of (set (set bytes 2 75) 0 88) ≡ wrong Mark 0) × (damage_of (set (set bytes 3 3) 1 81) ≡ wrong Mark 1) × (damage_of (set (set bytes 6 9) 4 1) ≡ wrong Version 3) × (damage_of (set (take 46 bytes) 6 9) ≡ wrong Count 5)
unfolding damage_of alike little
first_by_place = (refl, refl, refl, refl)

-- RULES, Job file: a byte too few, a state too few, a byte too many, a state too many
pub wrong_length : (damage_of (take 46 bytes) ≡ wrong Length 46) × (damage_of (set bytes 5 3) ≡ wrong Length 47) × (damage_of (bytes ++ (0 ∷ [])) ≡ wrong Length 47) × (damage_of (set bytes 5 1) ≡ wrong Length 31)
unfolding damage_of alike little
wrong_length = (refl, refl, refl, refl)

-- RULES, Job file: the version 2, 3 and 0, and 2 in its second byte
pub other_versions : (damage_of bytes2 ≡ sound) × (damage_of (set bytes2 3 3) ≡ wrong Version 3) × (damage_of (set bytes2 3 0) ≡ wrong Version 3) × (damage_of (set (set bytes2 3 0) 4 2) ≡ wrong Version 3)
unfolding damage_of alike little
other_versions = (refl, refl, refl, refl)

-- RULES, Job file: the length is the version's own: version 2 said of version 1's bytes, and 1 of version 2's; cut inside the first shortest and the last, and a byte too many
pub length_by_version : (damage_of (set bytes 3 2) ≡ wrong Length 47) × (damage_of (set bytes2 3 1) ≡ wrong Length 47) × (damage_of (take 33 bytes2) ≡ wrong Length 33) × (damage_of (take 54 bytes2) ≡ wrong Length 54) × (damage_of (bytes2 ++ (0 ∷ [])) ≡ wrong Length 55)
unfolding damage_of alike little
length_by_version = (refl, refl, refl, refl, refl)

-- RULES, Sizes: the largest job of each version
pub largest : (length_of 1 most_job_states ≡ 16399) × (length_of 2 most_job_states ≡ 20495)
largest = (refl, refl)

-- files that end early, behind the mark
abbrev SPJ : List ℕ → List ℕ
SPJ behind = 83 ∷ 80 ∷ 74 ∷ behind

-- RULES, Job file: no byte, S, SP, SX and SPJ
pub short_in_mark : (damage_of [] ≡ wrong Length 0) × (damage_of (83 ∷ []) ≡ wrong Length 1) × (damage_of (83 ∷ 80 ∷ []) ≡ wrong Length 2) × (damage_of (83 ∷ 88 ∷ []) ≡ wrong Mark 1) × (damage_of (SPJ []) ≡ wrong Length 3)
unfolding damage_of alike
short_in_mark = (refl, refl, refl, refl, refl)

-- RULES, Job file: one byte of a version, right or wrong; the version 3, and 2, and 1, and nothing more
pub short_in_version :
    (damage_of (SPJ (1 ∷ [])) ≡ wrong Length 4) × (damage_of (SPJ (3 ∷ [])) ≡ wrong Length 4) × (damage_of (SPJ (3 ∷ 0 ∷ [])) ≡ wrong Version 3) × (damage_of (SPJ (2 ∷ 0 ∷ [])) ≡ wrong Length 5) × (damage_of (SPJ (1 ∷ 0 ∷ [])) ≡ wrong Length 5)
unfolding damage_of alike little
short_in_version = (refl, refl, refl, refl, refl)

-- RULES, Job file: one byte of a number of states; 1,025 states, and 1,024, and nothing more
pub short_in_count : (damage_of (SPJ (1 ∷ 0 ∷ 255 ∷ [])) ≡ wrong Length 6) × (damage_of (SPJ (1 ∷ 0 ∷ 1 ∷ 4 ∷ [])) ≡ wrong Count 5) × (damage_of (SPJ (1 ∷ 0 ∷ 0 ∷ 4 ∷ [])) ≡ wrong Length 7)
unfolding damage_of alike little
short_in_count = (refl, refl, refl)

-- RULES, Job file: the number of each damage, with its place and nothing else
pub numbers : (answered (Err (Damaged Mark 1)) ≡ refusing_at 12 1) × (answered (Err (Damaged Version 3)) ≡ refusing_at 13 3) × (answered (Err (Damaged Count 5)) ≡ refusing_at 14 5) × (answered (Err (Damaged Length 46)) ≡ refusing_at 9 46)
numbers = (refl, refl, refl, refl)

-- RULES, Job file: the old number of each number from 8 to 15
pub old_numbers : map old_number (8 ∷ 9 ∷ 10 ∷ 11 ∷ 12 ∷ 13 ∷ 14 ∷ 15 ∷ []) ≡ 8 ∷ 9 ∷ 10 ∷ 11 ∷ 9 ∷ 9 ∷ 9 ∷ 15 ∷ []
unfolding old_number
old_numbers = refl
