use Rattle.gv.specs.Gv.{size_after}
use Rattle.gv.proofs.steps.Descent.size_after.Goals as goal

pub returns-then-obj-self : goal.returns-then-obj-self
unfolding size_after
returns-then-obj-self c = rw c.if-obj-self.true

pub returns-then-obj-self-2 : goal.returns-then-obj-self-2
unfolding size_after
returns-then-obj-self-2 c = rw (c.if-obj-self.false, c.if-obj-self-2.true)

pub returns : goal.returns
unfolding size_after
returns c = rw (c.if-obj-self.false, c.if-obj-self-2.false)
