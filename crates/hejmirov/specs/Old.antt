-- The two calls that answer a job as they were while 9 was the number of every damage, and had no place.
use Rattle.std.specs.Prelude.{◌≡◌, List, ℕ}
use Rattle.lists.specs.Answers.{Answer, written}
use Rattle.job.specs.Link.{idle, came_in, link_refusal}
use Rattle.job.specs.Old.{OldSaysAfter}
use Rattle.hejmirov.specs.Promise.{HandsThree}

-- `hejmirov_job`
pub record OldJobCallSays (bytes out work : List ℕ) (states frames changes r : ℕ) (out' work' : List ℕ) (states' frames' changes' : ℕ) : Type 0 where
  pub answer : Answer
  pub says : OldSaysAfter 0 bytes out work answer out' work'
  pub gives : HandsThree answer states frames changes r states' frames' changes'

-- `hejmirov_link_end`
pub record OldLinkEndCallSays (link out work : List ℕ) (states frames changes r : ℕ) (link' out' work' : List ℕ) (states' frames' changes' : ℕ) : Type 0 where
  pub answer : Answer
  pub says : OldSaysAfter (link_refusal link) (came_in link) out work answer out' work'
  pub memory : link' ≡ written (link_refusal link) idle link
  pub gives : HandsThree answer states frames changes r states' frames' changes'
