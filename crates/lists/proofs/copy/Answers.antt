use Rattle.std.proofs.Common.{◌∙◌, refl, arith}
use Rattle.std.proofs.Math.ListN.{length-take}
use Rattle.std.proofs.Math.Seq.{get_or-take}
use Rattle.lists.proofs.Stores.{storing, copying_next, copying_done}
use Rattle.lists.proofs.copy.Goals as goal

pub loop-i-init : goal.loop-i-init
loop-i-init g c = storing _ _ _

pub loop-i-preserved : goal.loop-i-preserved
loop-i-preserved g c =
    let turns = length-take c.min-end.result c.args.src.now in
    let read = c.item-item.is ∙ get_or-take c.min-end.result c.args.src.now c.loop-i.i _ (omega (arith, turns, c.loop-i-test.true)) in
    copying_next _ _ _ _ _ _ refl c.loop-i.invariant _ _ (omega (arith, turns, c.loop-i-test.true, c.min-end.ensures, c.min.ensures)) read

pub returns : goal.returns
returns g c =
    let turns = length-take c.min-end.result c.args.src.now in
    copying_done _ _ _ _ _ _ refl c.loop-i.invariant (omega (arith, turns, c.loop-i-test.false, c.min-end.ensures, c.min.ensures))
