-- What begin, part and end promise.
use Rattle.std.specs.Prelude.{◌≡◌, Result, List, [], ◌++◌, ℕ, take}
use Rattle.lists.specs.Answers.{written}
use Rattle.lists.specs.Ends.{refused}
use Rattle.lists.specs.declared.Refusal.{Refusal}
use Rattle.job.specs.declared.Done.{Done}
use Rattle.job.specs.declared.Failure.{Failure}
use Rattle.job.specs.Promise.{JobSaysAfter}
use Rattle.job.specs.Link.{link_room, idle, under_way, came_in, begin_refusal, link_refusal}

-- RULES, Serial link: the number becomes 1, whatever stood there: no bytes have come
pub record LinkBeginSays (link : List ℕ) (r : Result (Unit {0}) Refusal) (link' : List ℕ) : Type 0 where
  pub answer : refused r ≡ begin_refusal link
  pub memory : link' ≡ written (begin_refusal link) (under_way []) link

-- RULES, Serial link: a part's bytes are put behind those that have come, as far as there is room
pub record LinkPartSays (link bytes : List ℕ) (r : Result (Unit {0}) Refusal) (link' : List ℕ) : Type 0 where
  pub answer : refused r ≡ link_refusal link
  pub memory : link' ≡ written (link_refusal link) (under_way (take link_room (came_in link ++ bytes))) link

-- RULES, Serial link: at the end the job that has come is answered as a job file is, and no job is under way
pub record LinkEndSays (link out work : List ℕ) (r : Result Done Failure) (link' out' work' : List ℕ) : Type 0 where
  pub job : JobSaysAfter (link_refusal link) (came_in link) out work r out' work'
  pub memory : link' ≡ written (link_refusal link) idle link
