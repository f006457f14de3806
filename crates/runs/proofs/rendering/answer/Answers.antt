use mathlib.Core.Path.{◌≡◌, sym}
use mathlib.Core.Bool.{not}
use native.Mathlib.Omega.{arith}
use lib.Dec.{ltb, eqb}
use lib.ListN.{length}
use borrow.Author.Rules.{rules}
use Rattle.std.proofs.lemmas.Result.{err_from_is_err_and}
use Rattle.voicing.specs.Mask.{stream_mask}
use Rattle.mlpg_adjust.specs.Trajectory.{state_size}
use Rattle.runs.specs.Runs.{runs_of, run_at}
use Rattle.runs.specs.Inner.Finding.{found_refusal}
use Rattle.runs.proofs.Ways.{run-refused, run-done}
use Rattle.runs.proofs.Located.{shaped, windows-some, asked-few, recorded, run-frames, run-there, run_is, renders}
use Rattle.runs.proofs.rendering.answer.Goals as goal
use Rattle.runs.proofs.rendering.answer.Goals.{After-frames-frames, In_ok-check_run}

pub overflow_cast-inputs : goal.overflow_cast-inputs
overflow_cast-inputs c =
    let a = c.args in
    omega (arith, (shaped a.stream a.inputs.widths.now a.inputs.coefficients.now a.inputs.records.now a.inputs.durations.now a.inputs.gv.now a.inputs.switches.now c.requires).most-windows)

pub invariant_of-states : goal.invariant_of-states
invariant_of-states c =
    let a = c.args in
    record { recorded = recorded a.stream a.inputs.widths.now a.inputs.coefficients.now a.inputs.records.now a.inputs.durations.now a.inputs.gv.now a.inputs.switches.now c.requires _ c.record_size-size.ensures }

-- the run is found
module _ (c : After-frames-frames) where
  frames : let a = c.args in (run_at (stream_mask (state_size a.stream a.inputs.widths.now) a.inputs.records.now a.stream.threshold a.inputs.durations.now) a.run).frames ≡ c.frames-frames.result
  frames = let a = c.args in run-frames a.stream a.inputs.widths.now a.inputs.coefficients.now a.inputs.records.now a.inputs.durations.now a.inputs.gv.now a.inputs.switches.now c.requires _ c.record_size-size.ensures a.run _ c.run_at-found.ensures _ c.frames-frames.ensures

  there : let a = c.args in ltb a.run (length (runs_of (stream_mask (state_size a.stream a.inputs.widths.now) a.inputs.records.now a.stream.threshold a.inputs.durations.now))) ≡ not (eqb c.frames-frames.result 0)
  there = let a = c.args in run-there a.stream a.inputs.widths.now a.inputs.coefficients.now a.inputs.records.now a.inputs.durations.now a.inputs.gv.now a.inputs.switches.now c.requires _ c.record_size-size.ensures a.run _ c.run_at-found.ensures _ c.frames-frames.ensures

pub check_run-requires : goal.check_run-requires
check_run-requires c = let a = c.args in windows-some a.stream a.inputs.widths.now a.inputs.coefficients.now a.inputs.records.now a.inputs.durations.now a.inputs.gv.now a.inputs.switches.now c.requires

pub returns-in_err-check_run : goal.returns-in_err-check_run
returns-in_err-check_run c =
    let a = c.args in
    let p = err_from_is_err_and c.from_residual.result c.from_residual.ensures.1 in
    rw (p.1, p.2) (run-refused a.stream a.inputs.widths.now a.inputs.coefficients.now a.inputs.records.now a.inputs.durations.now a.inputs.gv.now a.inputs.switches.now a.run a.out.now a.work.now a.marks.now c.requires _ (frames (goal.at.returns-in_err-check_run c).After-frames-frames) (there (goal.at.returns-in_err-check_run c).After-frames-frames) _ c.in_err-check_run.ensures)

-- nothing is refused
module _ (c : In_ok-check_run) where
  abbrev found : After-frames-frames
  found = record { before = c.before.before.before.before.before; type_inv = search rules }

  accepted : let a = c.args in found_refusal a.stream a.inputs.widths.now c.frames-frames.result (length a.out.now) (length a.work.now) (length a.marks.now) ≡ 0
  accepted = sym c.in_ok-check_run.ensures

pub render-requires : goal.render-requires
render-requires c =
    let a = c.args in
    renders a.stream a.inputs.widths.now a.inputs.coefficients.now a.inputs.records.now a.inputs.durations.now a.inputs.gv.now a.inputs.switches.now c.requires _ c.record_size-size.ensures a.run _ c.run_at-found.ensures _ c.frames-frames.ensures a.out.now a.work.now a.marks.now (accepted (goal.at.render-requires c).In_ok-check_run)

pub overflow_cast-result : goal.overflow_cast-result
overflow_cast-result c =
    let a = c.args in
    omega (arith, frames (goal.at.overflow_cast-result c).After-frames-frames, asked-few a.stream a.inputs.widths.now a.inputs.coefficients.now a.inputs.records.now a.inputs.durations.now a.inputs.gv.now a.inputs.switches.now c.requires a.run)

pub returns : goal.returns
returns c =
    let a = c.args in
    run-done a.stream a.inputs.widths.now a.inputs.coefficients.now a.inputs.records.now a.inputs.durations.now a.inputs.gv.now a.inputs.switches.now a.run a.out.now a.work.now a.marks.now c.requires _ (frames (goal.at.returns c).After-frames-frames) (there (goal.at.returns c).After-frames-frames) (accepted (goal.at.returns c).In_ok-check_run) _
    (run_is a.stream a.inputs.widths.now a.inputs.coefficients.now a.inputs.records.now a.inputs.durations.now a.inputs.gv.now a.inputs.switches.now c.requires _ c.record_size-size.ensures a.run _ c.run_at-found.ensures _ c.frames-frames.ensures a.out.now a.work.now a.marks.now (accepted (goal.at.returns c).In_ok-check_run))
    _ _ _ c.render.ensures.0 c.render.ensures.1 c.render.ensures.2
