use Rattle.duration.proofs.Refusals.{labels-over, width-none, width-over, labels-many, labels_differ, labels-agree}
use Rattle.duration.proofs.check_labels.Goals as goal

pub returns-then-n-gt4096 : goal.returns-then-n-gt4096
returns-then-n-gt4096 c = labels-over _ _ _ _ _ _ _ c.if-n-gt4096.true

pub returns-then-nstate-lt1 : goal.returns-then-nstate-lt1
returns-then-nstate-lt1 c = width-none _ _ _ _ _ _ _ c.if-n-gt4096.false c.if-nstate-lt1.true

pub returns-then-nstate-gt16 : goal.returns-then-nstate-gt16
returns-then-nstate-gt16 c = width-over _ _ _ _ _ _ _ c.if-n-gt4096.false c.if-nstate-lt1.false c.if-nstate-gt16.true

pub returns-then-labels-n : goal.returns-then-labels-n
returns-then-labels-n c = labels-many _ _ _ _ _ _ _ c.if-n-gt4096.false c.if-nstate-lt1.false c.if-nstate-gt16.false c.if-labels-n.true

pub returns-then-labels-nstate : goal.returns-then-labels-nstate
returns-then-labels-nstate c = labels_differ _ _ _ _ _ _ _ c.if-n-gt4096.false c.if-nstate-lt1.false c.if-nstate-gt16.false c.if-labels-nstate.true

pub returns : goal.returns
returns c = labels-agree _ _ _ _ _ _ _ c.if-n-gt4096.false c.if-nstate-lt1.false c.if-nstate-gt16.false _ c.if-labels-nstate.false c.check_lists.ensures
