use mathlib.Core.Path.{◌≡◌, ap, ◌∙◌}
use Prim.Native.Nat.{ℕ, ◌≤◌}
use native.Mathlib.Omega.{arith}
use lib.ListN.{length}
use Rattle.model.specs.declared.voice.model.Clamps.{Clamps}
use Rattle.model.specs.Clamps.{is_high, is_low}
use Rattle.mlpg_adjust.specs.Trajectory.{state_size}
use Rattle.mlpg_adjust.specs.Inner.Clamps.{clamps_by_states}
use Rattle.mlpg_adjust.proofs.Ways.{size_small}
use Rattle.mlpg_adjust.proofs.Clamps.{clamped-fits}
use Rattle.mlpg_adjust.proofs.ByStates.{by_states}
use Rattle.mlpg_adjust.proofs.counting.report.Goals as goal
use Rattle.mlpg_adjust.proofs.counting.report.Goals.{After-of_states-clamps, Start}

small : (c : Start) → state_size c.args.stream c.args.inputs.widths.now ≤ 513
small c = size_small c.args.stream.v (length c.args.inputs.widths.now) c.args.stream.masked c.requires.most_v c.requires.most-windows

pub of_states-clamps-requires : goal.of_states-clamps-requires
of_states-clamps-requires c =
    rw c.record_size.ensures (small (goal.at.of_states-clamps-requires c).Start, omega (arith, c.requires.recorded), c.requires.frames)

module _ (c : After-of_states-clamps) where
  said : let a = c.args in c.of_states-clamps.result ≡ clamps_by_states (state_size a.stream a.inputs.widths.now) a.inputs.records.now a.stream.threshold a.inputs.durations.now
  said = let a = c.args in c.of_states-clamps.ensures ∙ ap (λ (n : ℕ). clamps_by_states n a.inputs.records.now a.stream.threshold a.inputs.durations.now) c.record_size.ensures

pub overflow_cast-result : goal.overflow_cast-result
overflow_cast-result c = omega (arith, ap (λ (x : Clamps). x.high) (said (goal.at.overflow_cast-result c).After-of_states-clamps), clamped-fits is_high _ c.args.inputs.records.now c.args.stream.threshold _ (small (goal.at.overflow_cast-result c).Start) c.requires.frames)

pub overflow_cast-result-2 : goal.overflow_cast-result-2
overflow_cast-result-2 c = omega (arith, ap (λ (x : Clamps). x.low) (said (goal.at.overflow_cast-result-2 c).After-of_states-clamps), clamped-fits is_low _ c.args.inputs.records.now c.args.stream.threshold _ (small (goal.at.overflow_cast-result-2 c).Start) c.requires.frames)

pub returns : goal.returns
returns c =
    let e = said (goal.at.returns c).After-of_states-clamps in
    (rw (by_states is_high _ _ _ _ _ _ c.requires.recorded) (ap (λ (x : Clamps). x.high) e), rw (by_states is_low _ _ _ _ _ _ c.requires.recorded) (ap (λ (x : Clamps). x.low) e))
