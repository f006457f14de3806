-- What the call for one run knows once its run is found: how many frames it has, that its states can be rendered, and the ways out.
use mathlib.Core.Path.{◌≡◌, refl, sym, ap, subst, ◌∙◌}
use mathlib.Core.Bool.{Bool, false, cond, not, ◌&&◌}
use mathlib.Core.List.{List, []}
use mathlib.Core.Logic.{⊎_elim}
use Prim.Native.Nat.{ℕ, ◌+◌, ◌*◌, ◌<◌, ◌≤◌}
use native.Mathlib.Nat.{le_of_eq}
use native.Mathlib.Omega.{arith}
use borrow.Author.Tests.{eqb-false, leb-true}
use lib.Dec.{ltb, leb, eqb}
use lib.ListN.{length, get_or-eq_default}
use lib.Ieee.{Float}
use Rattle.lists.proofs.Flags.{both}
use Rattle.lists.proofs.Numbers.{le_or_lt}
use Rattle.lists.proofs.Refusals.{none_then, then-none, or_none}
use Rattle.model.proofs.Windows.{fit-some}
use Rattle.voicing.specs.Mask.{stream_mask}
use Rattle.mlpg_adjust.specs.Trajectory.{state_size, gv_on}
use Rattle.mlpg_adjust.specs.Promise.{lengths_of, stream_refusal}
use Rattle.mlpg_adjust.specs.Inner.Groups.{Shaped}
use Rattle.mlpg_adjust.specs.declared.Stream.{Stream}
use Rattle.mlpg_adjust.proofs.Ways.{passed_shape, passed-finite}
use Rattle.mlpg_adjust.proofs.Marks.{mask-long}
use Rattle.runs.specs.declared.finding.Found.{Found}
use Rattle.runs.specs.Runs.{runs_of, run_at}
use Rattle.runs.specs.Promise.{has_room}
use Rattle.runs.specs.Inner.Finding.{Recorded, FoundAt, run_of, stays_refusal, found_refusal, Renders}
use Rattle.runs.proofs.Masks.{run_lies}
use Rattle.runs.proofs.Findings.{found-frames, found-there, found-run}

module _ (s : Stream) (widths : List ℕ) (coefs records : List Float) (ds : List ℕ) (gv : List Float) (switches : List ℕ)
    (none : stream_refusal s widths coefs ds (lengths_of records gv switches [] [] []) ≡ 0) where
  pub shaped : Shaped s widths coefs records ds
  shaped = passed_shape s widths coefs ds (lengths_of records gv switches [] [] []) none records refl

  abbrev mask : List Bool
  mask = stream_mask (state_size s widths) records s.threshold ds

  module _ (size : ℕ) (es : size ≡ state_size s widths) where
    pub recorded : Recorded (record { size = size; threshold = s.threshold }) (length records) ds
    recorded = record { each = rw es (le_of_eq (sym shaped.recorded)); frames = shaped.frames }

    -- run number `run` is found, of n frames
    module _ (run : ℕ) (f : Found) (a : FoundAt ds (stream_mask size records s.threshold ds) f × (f.number ≤ run) × (f.number < run → f.end.frame ≡ f.begin.frame))
        (n : ℕ) (en : n + f.begin.frame ≡ f.end.frame) where
      placed : FoundAt ds mask f
      placed = subst (λ (m : ℕ). FoundAt ds (stream_mask m records s.threshold ds) f) es a.0

      its : f.end.frame ≡ n + f.begin.frame → (run_of f).frames ≡ n
      its e = omega arith

      pub run-frames : (run_at mask run).frames ≡ n
      run-frames = found-frames ds mask f run placed a.1 a.2 ∙ its (sym en)

      pub run-there : ltb run (length (runs_of mask)) ≡ not (eqb n 0)
      run-there = found-there ds mask f run placed a.1 a.2 ∙ ap (λ (m : ℕ). not (eqb m 0)) (its (sym en))

      module _ (out work : List Float) (marks : List ℕ) (accepted : found_refusal s widths n (length out) (length work) (length marks) ≡ 0) where
        abbrev fit : Bool
        fit = has_room s.v n (length out) (length work) (length marks)

        in_turn_lem : ◌≡◌ {A = ℕ} (cond fit 0 6) 0 × (stays_refusal s.gv n widths ≡ 0)
        in_turn_lem = or_none (cond fit 0 6) (stays_refusal s.gv n widths) accepted

        -- what 20 and 21 leave
        left : (gv_on s.gv ≡ false) × (eqb n 0 ≡ false)
        left =
            let (b, u) = or_none (cond (gv_on s.gv) 20 0) _ in_turn_lem.1 in
            let (d, _) = or_none (cond (eqb n 0) 21 0) _ u in
            (then-none (gv_on s.gv) 19 b, then-none (eqb n 0) 20 d)

        some : 0 < n
        some = omega (arith, eqb-false n 0 left.1)

        -- what 6 leaves
        fits : (n * s.v ≤ length out) × (n * 48 ≤ length work) × (n * 4 ≤ length marks)
        fits =
            let (x, d) = both (leb (n * s.v) (length out) && leb (n * 48) (length work)) (leb (n * 4) (length marks)) (none_then fit 5 in_turn_lem.0) in
            let (a, b) = both (leb (n * s.v) (length out)) (leb (n * 48) (length work)) x in
            (leb-true (n * s.v) (length out) a, leb-true (n * 48) (length work) b, leb-true (n * 4) (length marks) d)

        pub run_is : run_at mask run ≡ run_of f
        run_is = (found-run ds mask f run placed a.1 a.2 (rw (its (sym en)) some)).0

        pub renders : Renders s widths coefs records ds f out work marks
        renders = record {
          shaped = shaped;
          fine = passed-finite s widths coefs ds (lengths_of records gv switches [] [] []) none;
          off = left.0;
          found = placed;
          some = rw (its (sym en)) some;
          numbers = rw (its (sym en)) fits.0;
          floats = rw (its (sym en)) fits.1;
          counts = rw (its (sym en)) fits.2;
        }

  -- a run has no more frames than the utterance
  pub asked-few : (run : ℕ) → (run_at mask run).frames ≤ 65536
  asked-few run = ⊎_elim
      (λ (g : length (runs_of mask) ≤ run). rw (get_or-eq_default (runs_of mask) (record { first = 0; frames = 0 }) g) (omega arith))
      (λ (g : run < length (runs_of mask)). omega (arith, run_lies mask run g, mask-long s widths records ds, shaped.frames))
      (le_or_lt (length (runs_of mask)) run)

  pub windows-some : 0 < length widths
  windows-some = fit-some widths shaped.fit
