use Rattle.duration.proofs.Refusals.{states-over, varis_differ, shortest_differ, output-short, work-short, lists-fit}
use Rattle.duration.proofs.check_lists.Goals as goal

pub returns-then-n-gt4096 : goal.returns-then-n-gt4096
returns-then-n-gt4096 c = states-over _ _ _ _ _ c.if-n-gt4096.true

pub returns-then-states-n : goal.returns-then-states-n
returns-then-states-n c = varis_differ _ _ _ _ _ c.if-n-gt4096.false c.if-states-n.true

pub returns-then-states-n-2 : goal.returns-then-states-n-2
returns-then-states-n-2 c = shortest_differ _ _ _ _ _ c.if-n-gt4096.false c.if-states-n.false c.if-states-n-2.true

pub returns-then-out-n : goal.returns-then-out-n
returns-then-out-n c = output-short _ _ _ _ _ c.if-n-gt4096.false c.if-states-n.false c.if-states-n-2.false c.if-out-n.true

pub returns-then-work-n : goal.returns-then-work-n
returns-then-work-n c = work-short _ _ _ _ _ c.if-n-gt4096.false c.if-states-n.false c.if-states-n-2.false c.if-out-n.false c.if-work-n.true

pub returns : goal.returns
returns c = lists-fit _ _ _ _ _ c.if-n-gt4096.false c.if-states-n.false c.if-states-n-2.false c.if-out-n.false c.if-work-n.false
