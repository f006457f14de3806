use mathlib.Core.Path.{refl}
use native.Mathlib.Omega.{arith}
use Rattle.lists.specs.Build.{build}
use Rattle.voicing.specs.Inner.Lanes.{sets_lanes}
use Rattle.voicing.proofs.Fillings.{lanes_next, lanes_done}
use Rattle.voicing.proofs.filling.put_lanes.Goals as goal

pub loop-l-init : goal.loop-l-init
unfolding sets_lanes
loop-l-init g c = λ x h. refl

pub loop-l-preserved : goal.loop-l-preserved
loop-l-preserved g c = λ x h.
    lanes_next _ _ (λ l. build (x l) c.args.d) c.loop-l.l _ _ _ (c.loop-l.invariant x h) (c.put_column.ensures (x c.loop-l.l) (λ j y b k. h _ j y c.loop-l-test.true b k))

pub returns : goal.returns
returns g c = λ x h. lanes_done _ _ _ _ _ _ _ (omega arith) (omega (arith, c.loop-l-test.false)) (c.loop-l.invariant x h)
