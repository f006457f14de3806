use mathlib.Core.Path.{refl}
use Rattle.read_along.specs.Format.{bytes_of_spans}
use Rattle.read_along.proofs.Passes.{spanning, spanning-next, spanning-done}
use Rattle.read_along.proofs.file.put_spans.Goals as goal

pub loop-i-preserved : goal.loop-i-preserved
loop-i-preserved c =
    spanning-next _ _ _ _ _ _ _ c.loop-i.invariant c.behind-next.result c.behind-next.ensures c.loop-i-test.true _ _ refl c.put_span.ensures

pub returns : goal.returns
unfolding bytes_of_spans
returns c = spanning-done _ _ _ _ _ _ _ c.loop-i.invariant c.loop-i-test.false

pub loop-i-init : goal.loop-i-init
loop-i-init c = spanning _ _ _ _ _ _ _ _
