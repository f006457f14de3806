-- The place behind a pointer is written for 9, 12, 13 and 14, and for nothing else; then it is the place of what is wrong.
use mathlib.Core.Path.{refl}
use mathlib.Core.List.{List}
use Prim.Native.Nat.{ℕ}
use Rattle.lists.specs.Answers.{Answer}
use Rattle.job.specs.Link.{came_in, link_refusal}
use Rattle.job.specs.Places.{PlaceTold}
use Rattle.job.specs.Promise.{answered}
use Rattle.job.proofs.Telling.{link_none, job_tells}
use Rattle.hejmirov.specs.Promise.{handed, HandsJob, JobCallSays, LinkEndCallSays}

hands_told : (bytes : List ℕ) (a : Answer) (o₀ o₁ o₂ at r x₀ x₁ x₂ at' : ℕ) → HandsJob a o₀ o₁ o₂ at r x₀ x₁ x₂ at' → PlaceTold bytes a.number at (handed a.place 0 at) → PlaceTold bytes r at at'
hands_told bytes a o₀ o₁ o₂ at r x₀ x₁ x₂ at' h p = rw (h.three.answers, h.place) p

pub job-call-told : (bytes out work : List ℕ) (states frames changes place r : ℕ) (out' work' : List ℕ) (states' frames' changes' place' : ℕ)
    → JobCallSays bytes out work states frames changes place r out' work' states' frames' changes' place' → PlaceTold bytes r place place'
job-call-told bytes out work states frames changes place r out' work' states' frames' changes' place' f =
    hands_told bytes (answered f.answer) states frames changes place r states' frames' changes' place' f.gives (job_tells 0 refl bytes out work f.answer out' work' f.says place)

-- of the bytes that have come
pub link_end_call_told : (link out work : List ℕ) (states frames changes place r : ℕ) (link' out' work' : List ℕ) (states' frames' changes' place' : ℕ)
    → LinkEndCallSays link out work states frames changes place r link' out' work' states' frames' changes' place' → PlaceTold (came_in link) r place place'
link_end_call_told link out work states frames changes place r link' out' work' states' frames' changes' place' f =
    hands_told (came_in link) (answered f.answer) states frames changes place r states' frames' changes' place' f.gives
    (job_tells (link_refusal link) (link_none link) (came_in link) out work f.answer out' work' f.says.job place)
