-- One run alone, by the calls for C: its numbers are those of the full trajectory at its frames.
use mathlib.Core.Path.{sym}
use mathlib.Core.List.{List}
use Prim.Native.Nat.{ℕ}
use lib.Ieee.{Float}
use Rattle.alone.specs.Claim.{Premise, Alone}
use Rattle.alone.proofs.Calls.{calls_alone}
use Rattle.hejmirov.specs.Promise.{stream_of, TrajectoryCallSays}
use Rattle.hejmirov.specs.Runs.{RunCallSays}

-- RULES, One run alone: both calls are accepted, with the same stream
pub run-call-alone : (v masked : ℕ) (threshold none : Float) (gv_on : ℕ) (weight : Float) (widths : List ℕ) (coefs records : List Float) (ds : List ℕ) (gv : List Float) (switches : List ℕ) (k : ℕ)
    (out work : List Float) (marks : List ℕ) (high low : ℕ) (out' work' : List Float) (marks' : List ℕ) (high' low' : ℕ)
    (out₂ work₂ : List Float) (marks₂ : List ℕ) (frames : ℕ) (out₂' work₂' : List Float) (marks₂' : List ℕ) (frames' : ℕ)
    → TrajectoryCallSays v masked threshold none gv_on weight widths coefs records ds gv switches out work marks high low 0 out' work' marks' high' low'
    → RunCallSays v masked threshold none gv_on weight widths coefs records ds gv switches k out₂ work₂ marks₂ frames 0 out₂' work₂' marks₂' frames'
    → Premise (stream_of v masked threshold none gv_on weight) widths coefs records ds
    → Alone (stream_of v masked threshold none gv_on weight) widths coefs records ds out' out₂' k
run-call-alone v masked threshold none gv_on weight widths coefs records ds gv switches k out work marks high low out' work' marks' high' low' out₂ work₂ marks₂ frames out₂' work₂' marks₂' frames' f g premise =
    calls_alone (stream_of v masked threshold none gv_on weight) widths coefs records ds gv switches k out work marks f.answer out' work' marks' out₂ work₂ marks₂ g.answer out₂' work₂' marks₂'
    f.says (sym f.gives.answers) g.says (sym g.gives.answers) premise
