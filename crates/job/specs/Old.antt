-- The promise of a job as it was while 9 was the number of every damage, and had no place.
use Rattle.std.specs.Prelude.{Ok, Err, not, cond, List, [], ◌∷◌, ℕ, ltb, eqb, length}
use Rattle.lists.specs.Sizes.{most_job_states}
use Rattle.lists.specs.Bytes.{starts_with}
use Rattle.lists.specs.Totals.{total}
use Rattle.lists.specs.Refusals.{or_else}
use Rattle.lists.specs.Answers.{Answer}
use Rattle.duration.specs.Promise.{Says}
use Rattle.job.specs.Format.{mark, version_of, is_known, count_of, whole_of, job_of}
use Rattle.job.specs.Damage.{Found, damage_number, old_number}
use Rattle.job.specs.Promise.{job_fit, job_refusal}

-- every departure from the format was 9 (`starts_with` is said by `alike` since, and `lists/Fronts.starts_is` and `is_starts` say what it is)
unfoldable pub format_refusal : List ℕ → ℕ
format_refusal bytes =
    cond (not (starts_with mark bytes)) 9
    (cond (not (is_known (version_of bytes))) 9
    (cond (ltb most_job_states (count_of bytes)) 9
    (cond (not (eqb (length bytes) (whole_of bytes))) 9 0)))

-- the number of what is found, 0 for nothing
abbrev pub found_number : Found → ℕ
found_number (Ok none) = 0
found_number (Err w) = damage_number w.damage

-- 9 before all others; here behind a number k that comes before it, 0 for none
abbrev pub OldSaysAfter : ℕ → List ℕ → List ℕ → List ℕ → Answer → List ℕ → List ℕ → Type 0
OldSaysAfter k bytes out work =
    let j = job_of bytes in
    let n = length j.means in
    let o = job_fit j in
    Says (or_else k (or_else (format_refusal bytes) (job_refusal j out work))) (n ∷ total o.durations ∷ o.changes ∷ []) o.durations n out work

-- RULES, Job file: what a program sees that knows 9 alone: the old number, the values, and no place
abbrev pub old_answer : Answer → Answer
old_answer a = record { number = old_number a.number; values = a.values; place = [] }
