use Rattle.std.proofs.Common.{ℕ, length, sym, ap, ◌∙◌, rules}
use Rattle.spool.specs.Refusal.{shape_refusal}
use Rattle.spool.specs.Refusal.Steps.{trajectory_stop, trajectory_then}
use Rattle.spool.proofs.check_trajectory.Goals as goal

pub returns-in_err-check_counts : goal.returns-in_err-check_counts
returns-in_err-check_counts c =
    let a = c.args in
    let h = trajectory_stop (length a.trajectory.now) a.durations.now a.v _ c.in_err-check_counts.ensures in
    search rules

pub returns : goal.returns
returns c =
    let a = c.args in
    let numbers = length a.trajectory.now in
    c.check_shape.ensures ∙ ap (λ (n : ℕ). shape_refusal numbers n a.v) c.frames_of.ensures.sum ∙ sym (trajectory_then numbers a.durations.now a.v (sym c.in_ok-check_counts.ensures))
