-- A program that takes every number through `hejmirov_job_old_number` sees of a job what it saw while 9 was the number of every damage.
use mathlib.Core.Path.{refl, ap}
use mathlib.Core.List.{List}
use Prim.Native.Nat.{ℕ}
use Rattle.lists.specs.Answers.{Answer}
use Rattle.job.specs.Damage.{old_number}
use Rattle.job.specs.Link.{came_in, link_refusal}
use Rattle.job.specs.Promise.{answered}
use Rattle.job.specs.Old.{old_answer}
use Rattle.job.proofs.Telling.{link_none}
use Rattle.job.proofs.Old.{old_says}
use Rattle.hejmirov.specs.Promise.{HandsThree, HandsJob, JobCallSays, LinkEndCallSays}
use Rattle.hejmirov.specs.Old.{OldJobCallSays, OldLinkEndCallSays}

hands_old : (a : Answer) (o₀ o₁ o₂ at r x₀ x₁ x₂ at' : ℕ) → HandsJob a o₀ o₁ o₂ at r x₀ x₁ x₂ at' → HandsThree (old_answer a) o₀ o₁ o₂ (old_number r) x₀ x₁ x₂
hands_old a o₀ o₁ o₂ at r x₀ x₁ x₂ at' h = let t = h.three in record { answers = ap old_number t.answers; first = t.first; second = t.second; third = t.third }

pub job_call_old : (bytes out work : List ℕ) (states frames changes place r : ℕ) (out' work' : List ℕ) (states' frames' changes' place' : ℕ)
    → JobCallSays bytes out work states frames changes place r out' work' states' frames' changes' place' → OldJobCallSays bytes out work states frames changes (old_number r) out' work' states' frames' changes'
job_call_old bytes out work states frames changes place r out' work' states' frames' changes' place' f =
    record {
      answer = old_answer (answered f.answer);
      says = old_says 0 refl bytes out work f.answer out' work' f.says;
      gives = hands_old (answered f.answer) states frames changes place r states' frames' changes' place' f.gives;
    }

pub link_end_call_old : (link out work : List ℕ) (states frames changes place r : ℕ) (link' out' work' : List ℕ) (states' frames' changes' place' : ℕ)
    → LinkEndCallSays link out work states frames changes place r link' out' work' states' frames' changes' place'
    → OldLinkEndCallSays link out work states frames changes (old_number r) link' out' work' states' frames' changes'
link_end_call_old link out work states frames changes place r link' out' work' states' frames' changes' place' f =
    record {
      answer = old_answer (answered f.answer);
      says = old_says (link_refusal link) (link_none link) (came_in link) out work f.answer out' work' f.says.job;
      memory = f.says.memory;
      gives = hands_old (answered f.answer) states frames changes place r states' frames' changes' place' f.gives;
    }
