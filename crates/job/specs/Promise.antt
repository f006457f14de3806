-- What the call promises.
use Rattle.std.specs.Prelude.{Result, Ok, Err, List, [], ◌∷◌, ℕ, zero, suc, length}
use Rattle.lists.specs.Refusals.{number_of, or_else}
use Rattle.lists.specs.Totals.{total}
use Rattle.steps.specs.Steps.{Outcome}
use Rattle.duration.specs.Speed.{fit_at, refusal_at}
use Rattle.lists.specs.Answers.{Answer, accepting, refusing, refusing_at, answer_of}
use Rattle.duration.specs.Promise.{early_refusal, Answers}
use Rattle.job.specs.declared.Done.{Done}
use Rattle.job.specs.declared.Failure.{Failure}
use Rattle.job.specs.declared.Failure.TheVariants.{Damaged, Refused}
use Rattle.job.specs.Format.{Job, job_states, job_of}
use Rattle.job.specs.Damage.{Found, damage_of, damage_number}

-- RULES, Job file: a job that is answered has its states, its frames and its changes, a damaged one the number of its damage and a place, any other its number
abbrev pub answered : Result Done Failure → Answer
answered (Ok d) = accepting (d.states ∷ d.frames ∷ d.changes ∷ [])
answered (Err (Damaged what at)) = refusing_at (damage_number what) at
answered (Err (Refused e)) = refusing (number_of e)

-- a job that is answered with these
abbrev pub done : ℕ → ℕ → ℕ → Result Done Failure
done states frames changes = Ok (record { states = states; frames = frames; changes = changes })

-- what `duration::create` comes to with the job's states at its speed, and the number with which it refuses them
abbrev pub job_fit : Job → Outcome
job_fit j = fit_at (job_states j) j.speed

abbrev pub job_refusal : Job → List ℕ → List ℕ → ℕ
job_refusal j out work = or_else (early_refusal (job_states j) out work) (refusal_at (job_states j) j.speed)

-- RULES, Refusals: what is found wrong with a job comes before all others
abbrev pub unless_found : Found → Answer → Answer
unless_found (Ok none) a = a
unless_found (Err w) a = refusing_at (damage_number w.damage) w.place

-- and what a number k, 0 for none, goes before
abbrev pub behind : ℕ → Answer → Answer
behind zero a = a
behind (suc k) a = refusing (suc k)

-- a number k first, 0 for none; then what is found wrong; then what the fit answers
abbrev pub JobSaysAfter : ℕ → List ℕ → List ℕ → List ℕ → Result Done Failure → List ℕ → List ℕ → Type 0
JobSaysAfter k bytes out work r =
    let j = job_of bytes in
    let n = length j.means in
    let o = job_fit j in
    let fits = answer_of (job_refusal j out work) (n ∷ total o.durations ∷ o.changes ∷ []) in
    Answers (behind k (unless_found (damage_of bytes) fits)) o.durations n out work (answered r)

-- the whole file
abbrev pub JobSays : List ℕ → List ℕ → List ℕ → Result Done Failure → List ℕ → List ℕ → Type 0
JobSays = JobSaysAfter 0
