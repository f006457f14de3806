-- What the C calls promise: a call below is made, and its answer taken apart into a number and what stands behind pointers.
use Rattle.std.specs.Prelude.{◌≡◌, Option, Some, None, Result, Ok, Err, cond, not, List, ℕ, eqb, get_or, Float}
use Rattle.lists.specs.Answers.{Answer}
use Rattle.steps.specs.Steps.{States}
use Rattle.duration.specs.Promise.{aligned, FitSays, SpeedSays, AlignOnTime}
use Rattle.duration.specs.declared.Aligned.{Aligned}
use Rattle.lists.specs.Ends.{counted, spanned, refused}
use Rattle.lists.specs.declared.Refusal.{Refusal}
use Rattle.lists.specs.declared.Span.{Span}
use Rattle.voicing.specs.Promise.{MaskedDistancesSays}
use Rattle.band.specs.Promise.{BandSays}
use Rattle.mlpg_adjust.specs.Promise.{created, CreateSays}
use Rattle.mlpg_adjust.specs.declared.Stream.{Stream}
use Rattle.mlpg_adjust.specs.declared.Clamped.{Clamped}
use Rattle.job.specs.Promise.{answered, JobSays}
use Rattle.job.specs.declared.Done.{Done}
use Rattle.job.specs.declared.Failure.{Failure}
use Rattle.job.specs.LinkPromise.{LinkBeginSays, LinkPartSays, LinkEndSays}
use Rattle.spool.specs.Promise.{PlaceSays, SpanSays}

-- RULES, Refusals: a refusal has a number and nothing else, but for the place of a damaged job; so value i of an answer, or the place, is handed out where there is one, and
-- what was there stays where not
abbrev pub handed : List ℕ → ℕ → ℕ → ℕ
handed values i old = get_or values i old

-- the number of an answer, 0 where nothing is refused
abbrev pub number_in : {A E : Type 0} → (E → ℕ) → Result A E → ℕ
number_in number (Ok a) = 0
number_in number (Err e) = number e

-- a call hands out what it has of any type: its number, and its value behind a pointer
abbrev pub Hands : {A E : Type 0} → (E → ℕ) → Result A E → A → ℕ → A → Type 0
Hands number (Ok a) old r new = (r ≡ 0) × (new ≡ a)
Hands number (Err e) old r new = (r ≡ number e) × (new ≡ old)

-- and a span, behind two
abbrev pub HandsSpan : {E : Type 0} → (E → ℕ) → Result Span E → ℕ → ℕ → ℕ → ℕ → ℕ → Type 0
HandsSpan number (Ok s) old₀ old₁ r new₀ new₁ = (r ≡ 0) × (new₀ ≡ s.first) × (new₁ ≡ s.count)
HandsSpan number (Err e) old₀ old₁ r new₀ new₁ = (r ≡ number e) × (new₀ ≡ old₀) × (new₁ ≡ old₁)

-- an answer's number, and its one value behind a pointer
pub record HandsOne (a : Answer) (old r new : ℕ) : Type 0 where
  pub answers : r ≡ a.number
  pub value : new ≡ handed a.values 0 old

-- an answer's number, and its two values behind pointers
pub record HandsTwo (a : Answer) (old₀ old₁ r new₀ new₁ : ℕ) : Type 0 where
  pub answers : r ≡ a.number
  pub first : new₀ ≡ handed a.values 0 old₀
  pub second : new₁ ≡ handed a.values 1 old₁

-- an answer's number, and its three values behind pointers
pub record HandsThree (a : Answer) (old₀ old₁ old₂ r new₀ new₁ new₂ : ℕ) : Type 0 where
  pub answers : r ≡ a.number
  pub first : new₀ ≡ handed a.values 0 old₀
  pub second : new₁ ≡ handed a.values 1 old₁
  pub third : new₂ ≡ handed a.values 2 old₂

-- a job's number and its three values, and the place of its damage
pub record HandsJob (a : Answer) (old₀ old₁ old₂ at r new₀ new₁ new₂ at' : ℕ) : Type 0 where
  pub three : HandsThree a old₀ old₁ old₂ r new₀ new₁ new₂
  pub place : at' ≡ handed a.place 0 at

-- `hejmirov_fit`
pub record FitCallSays (ss : States) (len : Float) (out work : List ℕ) (changes r : ℕ) (out' work' : List ℕ) (changes' : ℕ) : Type 0 where
  pub answer : Result ℕ Refusal
  pub says : FitSays ss len out work answer out' work'
  pub gives : HandsOne (counted answer) changes r changes'

-- `hejmirov_speed`
pub record SpeedCallSays (ss : States) (speed : Float) (out work : List ℕ) (changes r : ℕ) (out' work' : List ℕ) (changes' : ℕ) : Type 0 where
  pub answer : Result ℕ Refusal
  pub says : SpeedSays ss speed out work answer out' work'
  pub gives : HandsOne (counted answer) changes r changes'

-- `hejmirov_align`
pub record AlignCallSays (ss : States) (nstate : ℕ) (ends : List Float) (out work : List ℕ) (written changes r : ℕ) (out' work' : List ℕ) (written' changes' : ℕ) : Type 0 where
  pub answer : Result Aligned Refusal
  pub says : AlignOnTime ss nstate ends out work answer out' work'
  pub gives : HandsTwo (aligned answer) written changes r written' changes'

-- `hejmirov_mask`
pub record MaskCallSays (ws : List Float) (threshold : Float) (ds voiced left right : List ℕ) (frames r : ℕ) (voiced' left' right' : List ℕ) (frames' : ℕ) : Type 0 where
  pub answer : Result ℕ Refusal
  pub says : MaskedDistancesSays ws threshold ds voiced left right answer voiced' left' right'
  pub gives : HandsOne (counted answer) frames r frames'

-- `hejmirov_band_rows`: the frame count is the caller's own, and is not handed out
pub record BandCallSays (widths : List ℕ) (coefs means ivars rows right : List Float) (r : ℕ) (rows' right' : List Float) : Type 0 where
  pub answer : Result ℕ Refusal
  pub says : BandSays widths coefs means ivars rows right answer rows' right'
  pub gives : r ≡ (counted answer).number

-- GV is on where any bit is set
abbrev pub variance_of : ℕ → Float → Option Float
variance_of on weight = cond (eqb on 0) None (Some weight)

-- the stream that the first six numbers of a call say; it is masked where any bit is set
abbrev pub stream_of : ℕ → ℕ → Float → Float → ℕ → Float → Stream
stream_of v masked threshold none gv_on weight = record { v = v; masked = not (eqb masked 0); threshold = threshold; fill = none; gv = variance_of gv_on weight }

-- `hejmirov_trajectory`
pub record TrajectoryCallSays (v masked : ℕ) (threshold none : Float) (gv_on : ℕ) (weight : Float) (widths : List ℕ) (coefs records : List Float) (ds : List ℕ) (gv : List Float) (switches : List ℕ)
    (out work : List Float) (marks : List ℕ) (high low r : ℕ) (out' work' : List Float) (marks' : List ℕ) (high' low' : ℕ) : Type 0 where
  pub answer : Result Clamped Refusal
  pub says : CreateSays (stream_of v masked threshold none gv_on weight) widths coefs records ds gv switches out work marks answer out' work' marks'
  pub gives : HandsTwo (created answer) high low r high' low'

-- `hejmirov_place`
pub record PlaceCallSays (frame component v place r place' : ℕ) : Type 0 where
  pub answer : Result ℕ Refusal
  pub says : PlaceSays frame component v answer
  pub gives : HandsOne (counted answer) place r place'

-- `hejmirov_excerpt`
pub record ExcerptCallSays (trajectory : List Float) (durations : List ℕ) (v state first count r first' count' : ℕ) : Type 0 where
  pub answer : Result Span Refusal
  pub says : SpanSays trajectory durations v state answer
  pub gives : HandsTwo (spanned answer) first count r first' count'

-- `hejmirov_job`
pub record JobCallSays (bytes out work : List ℕ) (states frames changes place r : ℕ) (out' work' : List ℕ) (states' frames' changes' place' : ℕ) : Type 0 where
  pub answer : Result Done Failure
  pub says : JobSays bytes out work answer out' work'
  pub gives : HandsJob (answered answer) states frames changes place r states' frames' changes' place'

-- `hejmirov_link_begin`
pub record LinkBeginCallSays (link : List ℕ) (r : ℕ) (link' : List ℕ) : Type 0 where
  pub answer : Result (Unit {0}) Refusal
  pub says : LinkBeginSays link answer link'
  pub gives : r ≡ refused answer

-- `hejmirov_link_part`
pub record LinkPartCallSays (link bytes : List ℕ) (r : ℕ) (link' : List ℕ) : Type 0 where
  pub answer : Result (Unit {0}) Refusal
  pub says : LinkPartSays link bytes answer link'
  pub gives : r ≡ refused answer

-- `hejmirov_link_end`
pub record LinkEndCallSays (link out work : List ℕ) (states frames changes place r : ℕ) (link' out' work' : List ℕ) (states' frames' changes' place' : ℕ) : Type 0 where
  pub answer : Result Done Failure
  pub says : LinkEndSays link out work answer link' out' work'
  pub gives : HandsJob (answered answer) states frames changes place r states' frames' changes' place'
