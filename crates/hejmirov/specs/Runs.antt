-- What the C calls of voiced runs promise: a call below is made, and its answer taken apart.
use Rattle.std.specs.Prelude.{Result, not, List, ℕ, eqb, Float}
use Rattle.lists.specs.Ends.{counted}
use Rattle.lists.specs.declared.Refusal.{Refusal}
use Rattle.runs.specs.Promise.{RunsSay, RunSays}
use Rattle.hejmirov.specs.Promise.{HandsOne, stream_of}

-- `hejmirov_runs`; the stream is masked where any bit is set
pub record RunsCallSays (v masked : ℕ) (threshold : Float) (windows : ℕ) (records : List Float) (ds runs : List ℕ) (count r : ℕ) (runs' : List ℕ) (count' : ℕ) : Type 0 where
  pub answer : Result ℕ Refusal
  pub says : RunsSay v (not (eqb masked 0)) threshold windows records ds runs answer runs'
  pub gives : HandsOne (counted answer) count r count'

-- `hejmirov_run`
pub record RunCallSays (v masked : ℕ) (threshold none : Float) (gv_on : ℕ) (weight : Float) (widths : List ℕ) (coefs records : List Float) (ds : List ℕ) (gv : List Float) (switches : List ℕ) (run : ℕ)
    (out work : List Float) (marks : List ℕ) (frames r : ℕ) (out' work' : List Float) (marks' : List ℕ) (frames' : ℕ) : Type 0 where
  pub answer : Result ℕ Refusal
  pub says : RunSays (stream_of v masked threshold none gv_on weight) widths coefs records ds gv switches run out work marks answer out' work' marks'
  pub gives : HandsOne (counted answer) frames r frames'
