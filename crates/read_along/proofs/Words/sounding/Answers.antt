use Rattle.read_along.proofs.Passes.{searching, searching-found}
use Rattle.read_along.proofs.Words.sounding.Goals as goal

pub returns-then-frame-next : goal.returns-then-frame-next
returns-then-frame-next c =
    searching-found _ _ _ _ c.loop-i.invariant c.behind-next.result c.behind-next.ensures c.loop-i-test.true c.if-frame-next.true

pub loop-i-init : goal.loop-i-init
loop-i-init c = searching _ _ _ _
