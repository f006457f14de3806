use Rattle.std.proofs.Common.{arith}
use Rattle.steps.specs.Lent.{lent}
use Rattle.duration.proofs.Along.{along_open, Turn, turn-refused, turn-frames, turn-changes, turn-grown, along-done}
use Rattle.duration.proofs.align.fit_along.Goals as goal
use Rattle.duration.proofs.align.fit_along.Goals.{After-close_group-answer, in-At+in-Ok, in-Open}

-- where a group has been closed, or refused
module _ (c : After-close_group-answer) where
  turn : let a = c.args in let l = c.loop-end in Turn (lent a.states) a.nstate a.ends.now a.work.now l.work l.done l.first l.frames l.changes l.end-index c.new-label.result c.in-At.time c.close_group-answer.result c.close_group-answer.new.work
  turn = record { labels = c.requires; before = c.loop-end.invariant; here = c.loop-end-test.true; made = c.new-label.ensures; ends_at = c.in-At.is; closes = c.close_group-answer.ensures }

pub returns-in_default : goal.returns-in_default
returns-in_default c = turn-refused _ _ _ (turn (goal.at.returns-in_default c).After-close_group-answer) _ c.unwrap_err.ensures _

pub overflow_add-changes : goal.overflow_add-changes
overflow_add-changes c = omega (arith, turn-changes _ _ _ (turn (goal.at.overflow_add-changes c).After-close_group-answer) _ c.in-Ok.is)

pub overflow_add-frames : goal.overflow_add-frames
overflow_add-frames c = omega (arith, turn-frames _ _ _ (turn (goal.at.overflow_add-frames c).After-close_group-answer) _ c.in-Ok.is)

pub loop-end-preserved : goal.loop-end-preserved
loop-end-preserved c =
    elim c.match-end.branch [
      | in-At+in-Ok w ↦
          let l = c.loop-end in
          let t : Turn (lent c.args.states) c.args.nstate c.args.ends.now c.args.work.now l.work l.done l.first l.frames l.changes l.end-index c.new-label.result w.in-At.time w.close_group-answer.result w.close_group-answer.new.work =
          record { labels = c.requires; before = l.invariant; here = c.loop-end-test.true; made = c.new-label.ensures; ends_at = w.in-At.is; closes = w.close_group-answer.ensures } in
          rw (w.work-is, w.done-is, w.frames-is, w.changes-is) (turn-grown _ _ _ t _ w.in-Ok.is w.close_group-answer.auto.work)
      | in-Open w ↦
          rw (w.work-is, w.done-is, w.frames-is, w.changes-is) (along_open _ _ _ _ _ _ _ _ _ _ c.requires c.loop-end.invariant c.loop-end-test.true _ c.new-label.ensures w.in-Open.is)
    ]

pub returns : goal.returns
returns c =
    along-done _ _ _ _ _ _ _ _ _ _ c.requires c.loop-end.invariant c.loop-end-test.false _ c.close_tail.auto.work _ c.close_tail.ensures
