use Rattle.std.proofs.Common.{◌≡◌, ℕ, ◌+◌, ◌*◌, length, sym, ap, ◌∙◌, rules, arith}
use Rattle.spool.specs.Refusal.{shape_refusal, trajectory_refusal}
use Rattle.spool.specs.Refusal.Steps.{trajectory_stop, trajectory_then}
use Rattle.spool.specs.Refusal.Laws.{excerpt_10, excerpt_0}
use Rattle.spool.proofs.Sums.{total-split}
use Rattle.lists.proofs.Answers.{refused_as, accepted}
use Rattle.spool.proofs.Ways.{span-refuses, span-values}
use Rattle.spool.proofs.excerpt_span.Goals as goal
use Rattle.spool.proofs.excerpt_span.Goals.{After-check_shape}

pub returns-in_err-check_counts : goal.returns-in_err-check_counts
returns-in_err-check_counts c =
    let a = c.args in
    let h = span-refuses a.trajectory.now a.durations.now a.v a.state _ (trajectory_stop _ _ _ _ c.in_err-check_counts.ensures) in
    search rules

-- the number of the trajectory with its durations, once 3 is excluded
shape : (c : After-check_shape) → let a = c.args in
    shape_refusal (length a.trajectory.now) (c.frames_of-first.result + c.frames_of.result) a.v ≡ trajectory_refusal (length a.trajectory.now) a.durations.now a.v
shape c =
    let a = c.args in
    ap (λ (n : ℕ). shape_refusal (length a.trajectory.now) n a.v) (total-split _ _ _ _ c.frames_of-first.ensures.sum c.frames_of.ensures.sum)
    ∙ sym (trajectory_then _ _ _ (sym c.in_ok-check_counts.ensures))

pub returns-in_err-check_shape : goal.returns-in_err-check_shape
returns-in_err-check_shape c =
    let a = c.args in
    let h = span-refuses a.trajectory.now a.durations.now a.v a.state _ (c.in_err-check_shape.ensures ∙ shape (goal.at.returns-in_err-check_shape c).After-check_shape) in
    search rules

pub returns-then-states-at : goal.returns-then-states-at
returns-then-states-at c =
    let none = sym (c.in_ok-check_shape.ensures ∙ shape (goal.at.returns-then-states-at c).After-check_shape) in
    refused_as 9 _ _ (excerpt_10 _ _ _ c.args.state none (omega (arith, c.min-at.ensures, c.if-states-at.true)))

pub returns : goal.returns
returns c =
    let a = c.args in
    let none = sym (c.in_ok-check_shape.ensures ∙ shape (goal.at.returns c).After-check_shape) in
    accepted _ _ _ (excerpt_0 _ _ _ a.state none (omega (arith, c.min-at.ensures, c.if-states-at.false)))
    (span-values a.durations.now a.v a.state c.min-at.result c.frames_of-first.result c.from-width.result c.number_of.result (c.from.result * c.from-width.result)
    (omega (arith, c.min-at.ensures, c.if-states-at.false))
    c.frames_of-first.ensures.sum
    c.from-width.ensures
    c.number_of.ensures
    (ap (λ (n : ℕ). n * c.from-width.result) c.from.ensures))
