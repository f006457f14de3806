-- The claim, of what the two calls promise: where both accept, the run's numbers are those of the full trajectory at its frames.
use mathlib.Core.Path.{◌≡◌, refl, sym, ap, ◌∙◌}
use mathlib.Core.Bool.{Bool, true, false, cond}
use mathlib.Core.List.{List, []}
use Prim.Native.Nat.{ℕ, ◌+◌, ◌*◌, ◌<◌}
use native.Mathlib.Omega.{arith}
use borrow.Author.Tests.{ltb-true, ltb-false, eq-eqb}
use lib.Dec.{ltb}
use lib.ListN.{length}
use lib.Ieee.{Float, nan}
use Rattle.lists.specs.Totals.{total}
use Rattle.std.proofs.Common.{Result}
use Rattle.lists.specs.Ends.{counted}
use Rattle.lists.specs.declared.Refusal.{Refusal}
use Rattle.lists.proofs.Rows.{row_in}
use Rattle.lists.proofs.Fills.{build-length}
use Rattle.lists.proofs.Answers.{written_at, accepted_is}
use Rattle.lists.proofs.Refusals.{or_none, none_then, then-none}
use Rattle.floats.specs.Signs.{plain}
use Rattle.model.specs.Windows.{all_finite, window_refusal, width_of}
use Rattle.model.proofs.Windows.{fit-some}
use Rattle.model.proofs.Accepted.{width_some}
use Rattle.mlpg_adjust.specs.Trajectory.{gv_on, trajectory, numbers_of}
use Rattle.mlpg_adjust.specs.Promise.{lengths_of, stream_refusal, created_number, CreateSays}
use Rattle.mlpg_adjust.specs.Inner.Groups.{Shaped}
use Rattle.mlpg_adjust.specs.declared.Stream.{Stream}
use Rattle.mlpg_adjust.specs.declared.Clamped.{Clamped}
use Rattle.mlpg_adjust.proofs.Marks.{mask-long}
use Rattle.mlpg_adjust.proofs.Ways.{passed-finite, passed_shape}
use Rattle.runs.specs.declared.Run.{Run}
use Rattle.runs.specs.Alone.{run_numbers}
use Rattle.runs.specs.Promise.{asked, has_room, run_refusal, RunSays}
use Rattle.runs.proofs.Masks.{run_lies}
use Rattle.alone.specs.Claim.{mask, count, run, Premise, Alone}
use Rattle.alone.proofs.Claim.{run_alone}

module _ (s : Stream) (widths : List ℕ) (coefs records : List Float) (ds : List ℕ) (gv : List Float) (switches : List ℕ) where
  numbers-long : length (numbers_of s widths coefs records ds gv switches) ≡ total ds * s.v
  unfolding numbers_of trajectory
  numbers-long = build-length _ (total ds * s.v)

  run_numbers-long : (r : Run) → length (run_numbers s widths coefs records ds r) ≡ r.frames * s.v
  unfolding run_numbers
  run_numbers-long r = build-length _ (r.frames * s.v)

  -- what the number 0 of the call for run k leaves
  module _ (k : ℕ) (out work : List Float) (marks : List ℕ) (z : run_refusal s widths coefs records ds gv switches k out work marks ≡ 0) where
    passed : (stream_refusal s widths coefs ds (lengths_of records gv switches [] [] []) ≡ 0) × (gv_on s.gv ≡ false) × (k < count s widths coefs records ds) × (ltb 1 (width_of widths 0) ≡ false)
    unfolding run_refusal
    passed =
        let r : Run = asked s widths coefs records ds gv switches k in
        let (a, y) = or_none (stream_refusal s widths coefs ds (lengths_of records gv switches [] [] [])) _ z in
        let (_, x) = or_none (cond (has_room s.v r.frames (length out) (length work) (length marks)) 0 6) _ y in
        let (b, u) = or_none (cond (gv_on s.gv) 20 0) _ x in
        let (c, d) = or_none (cond (ltb k (count s widths coefs records ds)) 0 21) _ u in
        (a, then-none (gv_on s.gv) 19 b, ltb-true k (count s widths coefs records ds) (none_then (ltb k (count s widths coefs records ds)) 20 c), then-none (ltb 1 (width_of widths 0)) 21 d)

    shaped : Shaped s widths coefs records ds
    shaped = passed_shape s widths coefs ds (lengths_of records gv switches [] [] []) passed.0 records refl

    fine : all_finite coefs ≡ true
    fine = passed-finite s widths coefs ds (lengths_of records gv switches [] [] []) passed.0

    -- a first window of at most one coefficient has one
    one : width_of widths 0 ≡ 1
    unfolding window_refusal
    one =
        let w : window_refusal widths coefs ≡ 0 = rw (shaped.fit, fine, eq-eqb (length coefs) (total widths) shaped.whole) in
        omega (arith, width_some widths coefs w 0 (fit-some widths shaped.fit), ltb-false 1 (width_of widths 0) passed.3)

  -- RULES, One run alone
  pub calls_alone : (k : ℕ) (out work : List Float) (marks : List ℕ) (r : Result Clamped Refusal) (out' work' : List Float) (marks' : List ℕ) (out₂ work₂ : List Float) (marks₂ : List ℕ) (q : Result ℕ Refusal) (out₂' work₂' : List Float) (marks₂' : List ℕ)
      → CreateSays s widths coefs records ds gv switches out work marks r out' work' marks' → created_number r ≡ 0
      → RunSays s widths coefs records ds gv switches k out₂ work₂ marks₂ q out₂' work₂' marks₂' → (counted q).number ≡ 0
      → Premise s widths coefs records ds → Alone s widths coefs records ds out' out₂' k
  calls_alone k out work marks r out' work' marks' out₂ work₂ marks₂ q out₂' work₂' marks₂' created accepted says accepted₂ premise t c l b =
      let bs : List Bool = mask s widths coefs records ds in
      let own : Run = run s widths coefs records ds k in
      let z : run_refusal s widths coefs records ds gv switches k out₂ work₂ marks₂ ≡ 0 = (accepted_is (counted q) _ _ says.answer accepted₂).0 in
      let h : k < count s widths coefs records ds = (passed k out₂ work₂ marks₂ z).2 in
      let within : own.first + t < total ds = omega (arith, run_lies bs k h, mask-long s widths records ds) in
      ap plain (written_at (created_number r) (total ds * s.v) (numbers_of s widths coefs records ds gv switches) out out' ((own.first + t) * s.v + c) nan created.numbers accepted numbers-long (row_in s.v (own.first + t) (total ds) c within b))
      ∙ run_alone s widths coefs records ds gv switches (shaped k out₂ work₂ marks₂ z) (fine k out₂ work₂ marks₂ z) (passed k out₂ work₂ marks₂ z).1 (one k out₂ work₂ marks₂ z) premise k h t c l b
      ∙ sym (ap plain (written_at _ (own.frames * s.v) (run_numbers s widths coefs records ds own) out₂ out₂' (t * s.v + c) nan says.numbers z (run_numbers-long own) (row_in s.v t own.frames c l b)))
