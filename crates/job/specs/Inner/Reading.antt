-- What the crate's own functions give each other. No public call's promise names any of it.
use Rattle.std.specs.Prelude.{Result, List, ℕ}
use Rattle.lists.specs.declared.Refusal.{Refusal}
use Rattle.duration.specs.Promise.{SpeedSays}
use Rattle.job.specs.Format.{Job, job_states}

-- what `duration::create` promises, of a job
abbrev pub StatesFitted : Job → List ℕ → List ℕ → Result ℕ Refusal → List ℕ → List ℕ → Type 0
StatesFitted j = SpeedSays (job_states j) j.speed
