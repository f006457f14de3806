-- An answered job has no more states than durations stand in the output.
use Rattle.std.proofs.Common.{refl, Result, Ok, Err, List, ℕ, ◌≤◌, length, IfOk}
use Rattle.job.specs.declared.Done.{Done}
use Rattle.job.specs.declared.Failure.{Failure}
use Rattle.job.specs.Promise.{JobSaysAfter}
use Rattle.job.specs.Link.{came_in, link_refusal}
use Rattle.job.specs.LinkPromise.{LinkEndSays}
use Rattle.job.proofs.Outcomes.{job-states}

pub states-within : (k : ℕ) (bytes out work : List ℕ) (r : Result Done Failure) (out' work' : List ℕ) → JobSaysAfter k bytes out work r out' work' → IfOk r (λ (d : Done). d.states ≤ length out')
states-within k bytes out work (Ok d) out' work' f = (job-states k bytes out work (Ok d) d.states d.frames d.changes out' work' refl f).0
states-within k bytes out work (Err e) out' work' f = tt

pub end-within : (link out work : List ℕ) (r : Result Done Failure) (link' out' work' : List ℕ) → LinkEndSays link out work r link' out' work' → IfOk r (λ (d : Done). d.states ≤ length out')
end-within link out work r link' out' work' f = states-within (link_refusal link) (came_in link) out work r out' work' f.job
