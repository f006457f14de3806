-- Calls over a serial link, one after the other.
use Rattle.std.specs.Prelude.{◌≡◌, Result, Ok, Err, ℕ}
use mathlib.Core.List.{List, [], ◌∷◌, map, flatten}
use Rattle.lists.specs.declared.Refusal.{Refusal}
use Rattle.lists.specs.declared.Refusal.TheVariants.{JobEnded}
use Rattle.job.specs.declared.Done.{Done}
use Rattle.job.specs.declared.Failure.{Failure}
use Rattle.job.specs.declared.Failure.TheVariants.{Refused}
use Rattle.job.specs.Promise.{JobSays}
use Rattle.job.specs.LinkPromise.{LinkBeginSays, LinkPartSays, LinkEndSays}

-- a part with its bytes, or an end with the output and the work space that are lent to it
pub data Call : Type 0 where
  part_of : List ℕ → Call
  end_with : List ℕ → List ℕ → Call

-- what a call comes to: its answer, and of an end the output and the work space afterwards
pub data CallOutcome : Type 0 where
  parted : Result (Unit {0}) Refusal → CallOutcome
  finished : Result Done Failure → List ℕ → List ℕ → CallOutcome

-- a part that is taken, and a call that is refused with 11 and leaves its lists as they were
abbrev pub taken : List ℕ → CallOutcome
taken bytes = parted (Ok tt)

abbrev pub refused11 : Call → CallOutcome
refused11 (part_of bytes) = parted (Err JobEnded)
refused11 (end_with out work) = finished (Err (Refused JobEnded)) out work

-- These calls were made one after the other with these outcomes, each as its promise says: a link's memory before them, and after them.
pub data Calls : List ℕ → List Call → List CallOutcome → List ℕ → Type 0 where
  none : {link : List ℕ} → Calls link [] [] link
  part_then : {link bytes mid link' : List ℕ} {r : Result (Unit {0}) Refusal} {calls : List Call} {outcomes : List CallOutcome}
      → LinkPartSays link bytes r mid → Calls mid calls outcomes link' → Calls link (part_of bytes ∷ calls) (parted r ∷ outcomes) link'
  end_then : {link out work mid out' work' link' : List ℕ} {r : Result Done Failure} {calls : List Call} {outcomes : List CallOutcome}
      → LinkEndSays link out work r mid out' work' → Calls mid calls outcomes link' → Calls link (end_with out work ∷ calls) (finished r out' work' ∷ outcomes) link'

-- A job in parts: begin on a memory, whatever it holds, then these parts in order, then the end with an output and a work space. `clean` and `full` are the memory after
-- begin and after the last part, `begun` and `outcomes` what these came to.
pub record JobInParts (link : List ℕ) (parts : List (List ℕ)) (out work : List ℕ) (r : Result Done Failure) (link' out' work' : List ℕ) : Type 0 where
  pub begun : Result (Unit {0}) Refusal
  pub clean : List ℕ
  pub outcomes : List CallOutcome
  pub full : List ℕ
  pub begins : LinkBeginSays link begun clean
  pub comes : Calls clean (map part_of parts) outcomes full
  pub ends : LinkEndSays full out work r link' out' work'

-- RULES, Serial link: however it is cut, it is answered as the file of its bytes is: begin and every part are taken, and the end's answer, output and work space are
-- what the whole-file reader promises of the joined bytes
pub record AsWhole {link : List ℕ} {parts : List (List ℕ)} {out work : List ℕ} {r : Result Done Failure} {link' out' work' : List ℕ} (j : JobInParts link parts out work r link' out' work') : Type 0 where
  pub starts : j.begun ≡ Ok tt
  pub takes : j.outcomes ≡ map taken parts
  pub answers : JobSays (flatten parts) out work r out' work'
