-- After an alignment that is accepted the trajectory of the same states is never refused for its durations.
use mathlib.Core.Path.{◌≡◌, refl, sym, ap, ◌∙◌}
use mathlib.Core.Bool.{cond}
use mathlib.Core.List.{List}
use Prim.Native.Nat.{ℕ, zero, suc, ◌*◌, ◌≤◌}
use lib.ListN.{length, take}
use lib.Seq.{take_at}
use lib.Ieee.{Float}
use borrow.Author.Tests.{le-ltb, eq-eqb}
use Rattle.lists.specs.Sizes.{most_states, most_frames, outside}
use Rattle.lists.specs.Totals.{total}
use Rattle.lists.specs.Refusals.{or_else}
use Rattle.steps.specs.Steps.{States, size}
use Rattle.duration.specs.Promise.{aligned}
use Rattle.duration.specs.Align.{groups}
use Rattle.duration.specs.Fitting.{AcceptedAlong}
use Rattle.duration.proofs.Aligning.{align_theorem}
use Rattle.model.specs.Windows.{widths_fit, all_finite}
use Rattle.mlpg_adjust.specs.Trajectory.{state_size}
use Rattle.mlpg_adjust.specs.Promise.{lengths_of, disagree, short, stream_refusal, create_refusal}
use Rattle.mlpg_adjust.specs.declared.Stream.{Stream}
use Rattle.hejmirov.specs.Promise.{handed, stream_of, AlignCallSays, TrajectoryCallSays}
use Rattle.hejmirov.specs.Rendering.{refusal_beside, Ready, Blameless}

-- numbers that are asked for one after the other, however they are grouped
regrouped : (i j k l m n : ℕ) → or_else (or_else i (or_else j (or_else k (or_else l m)))) n ≡ or_else i (or_else j (or_else k (or_else l (or_else m n))))
regrouped (suc i) j k l m n = refl
regrouped zero (suc j) k l m n = refl
regrouped zero zero (suc k) l m n = refl
regrouped zero zero zero (suc l) m n = refl
regrouped zero zero zero zero m n = refl

-- durations within the sizes refuse nothing
beside : (s : Stream) (widths : List ℕ) (coefs records gv : List Float) (switches : List ℕ) (out work : List Float) (marks ds : List ℕ) → length ds ≤ most_states → total ds ≤ most_frames
    → create_refusal s widths coefs ds (lengths_of records gv switches out work marks) ≡ refusal_beside s widths coefs records gv switches out work marks (length ds) (total ds)
unfolding create_refusal stream_refusal refusal_beside
beside s widths coefs records gv switches out work marks ds h k = rw (le-ltb most_states (length ds) h, le-ltb most_frames (total ds) k) (regrouped (cond (widths_fit widths) 0 1) (cond (all_finite coefs) 0 2) (cond (outside s.v) 3 0) (cond (disagree s widths (length coefs) (length ds) (lengths_of records gv switches out work marks)) 4 0) 0 (cond (short s.v (total ds) (lengths_of records gv switches out work marks)) 6 0))

ready : (s : Stream) (widths : List ℕ) (coefs records gv : List Float) (switches : List ℕ) (out work : List Float) (marks : List ℕ) (n frames : ℕ)
    → Ready s widths coefs records gv switches out work marks n frames → refusal_beside s widths coefs records gv switches out work marks n frames ≡ 0
unfolding refusal_beside disagree
ready s widths coefs records gv switches out work marks n frames r =
    rw (r.windows, r.finite, r.components, eq-eqb (length coefs) (total widths) r.coefficients, eq-eqb (length records) (n * state_size s widths) r.states, r.variance, r.room)

-- what `hejmirov_align` has handed out
module _ (ss : States) (nstate : ℕ) (ends : List Float) (out work : List ℕ) (written changes : ℕ) (out' work' : List ℕ) (written' changes' : ℕ)
    (a : AlignCallSays ss nstate ends out work written changes 0 out' work' written' changes') where
  accepted : AcceptedAlong ss (groups nstate 0 0 ends) out a.answer out'
  accepted = align_theorem ss nstate ends out work a.answer out' work' (sym a.gives.answers) a.says.says

  -- as many durations as states
  pub align_written : written' ≡ size ss
  align_written = a.gives.first ∙ ap (λ r. handed (aligned r).values 0 written) accepted.answer

  -- within the sizes
  pub align_durations : (length (take written' out') ≡ size ss) × (length (take written' out') ≤ most_states) × (total (take written' out') ≤ most_frames)
  align_durations =
      let o = accepted.outcome in
      let ds : take written' out' ≡ o.durations = ap (λ (m : ℕ). take m out') align_written ∙ ap (take (size ss)) accepted.output ∙ take_at o.durations _ (size ss) accepted.count in
      let n : length (take written' out') ≡ size ss = ap length ds ∙ accepted.count in
      (n, rw n accepted.states, rw ds accepted.frames)

  -- in `hejmirov_trajectory`, with whatever records, windows and room
  pub align_blameless : (v masked : ℕ) (threshold none : Float) (gv_on : ℕ) (weight : Float) (widths : List ℕ) (coefs records gv : List Float) (switches : List ℕ)
      (numbers floats : List Float) (marks : List ℕ) (high low r : ℕ) (numbers' floats' : List Float) (marks' : List ℕ) (high' low' : ℕ)
      → TrajectoryCallSays v masked threshold none gv_on weight widths coefs records (take written' out') gv switches numbers floats marks high low r numbers' floats' marks' high' low'
      → Blameless (stream_of v masked threshold none gv_on weight) widths coefs records gv switches numbers floats marks (size ss) (take written' out') r
  align_blameless v masked threshold none gv_on weight widths coefs records gv switches numbers floats marks high low r numbers' floats' marks' high' low' t =
      let n : length (take written' out') ≡ size ss = align_durations.0 in
      let f : total (take written' out') ≤ most_frames = align_durations.2 in
      let e : r ≡ refusal_beside (stream_of v masked threshold none gv_on weight) widths coefs records gv switches numbers floats marks (size ss) (total (take written' out')) =
      t.gives.answers ∙ t.says.number
      ∙ beside (stream_of v masked threshold none gv_on weight) widths coefs records gv switches numbers floats marks (take written' out') align_durations.1 f
      ∙ ap (λ (m : ℕ). refusal_beside (stream_of v masked threshold none gv_on weight) widths coefs records gv switches numbers floats marks m (total (take written' out'))) n in
      record { count = n; frames = f; answers = e; accepted = λ q. e ∙ ready (stream_of v masked threshold none gv_on weight) widths coefs records gv switches numbers floats marks (size ss) (total (take written' out')) q }
