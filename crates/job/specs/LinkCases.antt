-- The worked job over the serial link, and the limits of a link's memory, computed.
use Rattle.std.specs.Prelude.{◌≡◌, refl, Ok, Err, true, false, List, [], ◌∷◌, ◌++◌, ℕ, set, take, drop, replicate}
use Rattle.std.specs.Float.Ieee.{of_bits, of_int, add, sub, mul, div, lt, eq, is_nan}
use Rattle.lists.specs.Answers.{written}
use Rattle.lists.specs.Build.{build, fold_from}
use Rattle.lists.specs.Bytes.{little, bytes_of, alike}
use Rattle.lists.specs.Totals.{total}
use Rattle.floats.specs.Rounding.{rounded_of}
use Rattle.floats.specs.Order.{abs_of, cost_below}
use Rattle.model.specs.Pair.{pairs_of, sum_of}
use Rattle.duration.specs.Shortest.{any_none, refusal_of_shortest}
use Rattle.duration.specs.Estimate.{estimates, naturals}
use Rattle.steps.specs.Steps.{key_of, keys, least_of, step, settle}
use Rattle.duration.specs.Fit.{start_of, fit_to, refusal_to}
use Rattle.duration.specs.Speed.{target_at, fit_at, refusal_at}
use Rattle.duration.specs.Promise.{work_of, refusal_of_lists}
use Rattle.job.specs.declared.Damage.TheVariants.{Mark}
use Rattle.lists.specs.declared.Refusal.TheVariants.{JobEnded, TooLittleRoom}
use Rattle.job.specs.declared.Failure.TheVariants.{Damaged, Refused}
use Rattle.job.specs.Format.{floats_at}
use Rattle.job.specs.Damage.{damage_of}
use Rattle.job.specs.Link.{link_room, link_bytes, idle, under_way, has_ended, came_in, begin_refusal, link_refusal}
use Rattle.job.specs.Promise.{done}
use Rattle.job.specs.LinkPromise.{LinkPartSays, LinkEndSays}
use Rattle.job.specs.Linking.{none, part_then, taken, JobInParts}
use Rattle.job.specs.Cases.{bytes, sevens, nines}

-- a memory in which anything stands, and what it becomes
abbrev memory : List ℕ
memory = replicate link_bytes 255

abbrev holding : List ℕ → List ℕ
holding front = written 0 front memory

-- RULES, Serial link: the worked job, cut inside the mark and with an empty part between, is answered as the file is: 4 and 6
pub worked_in_parts : JobInParts memory (take 2 bytes ∷ [] ∷ drop 2 bytes ∷ []) sevens nines (done 2 10 1) (written 0 idle (holding (under_way bytes))) (4 ∷ 6 ∷ 7 ∷ []) (0 ∷ 0 ∷ 9 ∷ [])
unfolding under_way has_ended came_in begin_refusal link_refusal damage_of alike little bytes_of floats_at build work_of any_none refusal_of_shortest refusal_of_lists refusal_at fit_at naturals target_at refusal_to fit_to settle step keys key_of least_of cost_below abs_of total start_of estimates rounded_of sum_of fold_from pairs_of of_bits of_int add sub mul div lt eq is_nan
worked_in_parts =
    record {
      begun = Ok tt;
      clean = holding (under_way []);
      outcomes = taken (take 2 bytes) ∷ taken [] ∷ taken (drop 2 bytes) ∷ [];
      full = holding (under_way bytes);
      begins = record { answer = refl; memory = refl };
      comes = part_then {mid = holding (under_way (take 2 bytes))} (record { answer = refl; memory = refl }) (part_then {mid = holding (under_way (take 2 bytes))} (record { answer = refl; memory = refl }) (part_then (record { answer = refl; memory = refl }) none));
      ends = record { job = record { answer = refl; output = refl; workspace = refl }; memory = refl };
    }

-- RULES, Serial link: its third letter wrong, and cut before it: the place counts from the job's first byte
pub wrong_letter_in_parts :
    JobInParts memory (take 2 bytes ∷ drop 2 (set bytes 2 75) ∷ []) sevens nines (Err (Damaged Mark 2)) (written 0 idle (holding (under_way (set bytes 2 75)))) sevens nines
unfolding under_way has_ended came_in begin_refusal link_refusal damage_of alike little bytes_of work_of
wrong_letter_in_parts =
    record {
      begun = Ok tt;
      clean = holding (under_way []);
      outcomes = taken (take 2 bytes) ∷ taken (drop 2 (set bytes 2 75)) ∷ [];
      full = holding (under_way (set bytes 2 75));
      begins = record { answer = refl; memory = refl };
      comes = part_then {mid = holding (under_way (take 2 bytes))} (record { answer = refl; memory = refl }) (part_then (record { answer = refl; memory = refl }) none);
      ends = record { job = record { answer = refl; output = refl; workspace = refl }; memory = refl };
    }

-- RULES, Serial link: where a job has ended, and where none was begun, a part and an end are refused with 11
pub nothing-under_way : (link_refusal (holding idle) ≡ 11) × (link_refusal (replicate link_bytes 0) ≡ 11) × (link_refusal memory ≡ 11) × (link_refusal [] ≡ 11)
unfolding under_way has_ended came_in begin_refusal link_refusal little bytes_of
nothing-under_way = (refl, refl, refl, refl)

pub part_after_end : LinkPartSays (holding idle) bytes (Err JobEnded) (holding idle)
unfolding under_way has_ended came_in begin_refusal link_refusal little bytes_of
part_after_end = record { answer = refl; memory = refl }

pub end_after_end : LinkEndSays (holding idle) sevens nines (Err (Refused JobEnded)) (holding idle) sevens nines
unfolding under_way has_ended came_in begin_refusal link_refusal little bytes_of work_of
end_after_end = record { job = record { answer = refl; output = refl; workspace = refl }; memory = refl }

-- RULES, Serial link: the numbers 1 and 20,497 are of a job that is under way, 0 and 20,498 of none
abbrev numbered : ℕ → List ℕ
numbered n = bytes_of 8 n ++ replicate link_room 0

pub numbers-under_way : (has_ended (numbered 0) ≡ true) × (has_ended (numbered 1) ≡ false) × (has_ended (numbered 20497) ≡ false) × (has_ended (numbered 20498) ≡ true)
unfolding under_way has_ended came_in begin_refusal link_refusal little bytes_of
numbers-under_way = (refl, refl, refl, refl)

-- RULES, Refusals: 6 for a link's memory goes before a damage, here of a job of no bytes
pub end_in_short_memory : LinkEndSays (take 20503 (numbered 1)) sevens nines (Err (Refused TooLittleRoom)) (take 20503 (numbered 1)) sevens nines
unfolding under_way has_ended came_in begin_refusal link_refusal little bytes_of work_of
end_in_short_memory = record { job = record { answer = refl; output = refl; workspace = refl }; memory = refl }

-- RULES, Serial link: 20,503 bytes are too short, and 11 comes before 6
pub one_byte_short : (link_bytes ≡ 20504) × (begin_refusal (take 20503 memory) ≡ 6) × (link_refusal (take 20503 (numbered 1)) ≡ 6) × (link_refusal (take 20503 (numbered 0)) ≡ 11) × (link_refusal (numbered 1) ≡ 0)
unfolding under_way has_ended came_in begin_refusal link_refusal little bytes_of
one_byte_short = (refl, refl, refl, refl, refl)
