use Rattle.std.proofs.Common.{◌≡◌, arith, sym, ◌∙◌, length, map}
use Prim.Native.Nat.{min}
use lib.ListN.{length-map, get_or-map}
use lib.Ieee.{nan}
use Rattle.lists.proofs.Stores.{storing-next, storing-done}
use Rattle.model.proofs.Scaling.{times}
use Rattle.model.proofs.Promises.{mul-done}
use Rattle.model.proofs.voice.model.mul.Goals as goal

pub loop-i-preserved : goal.loop-i-preserved
loop-i-preserved c =
    let far : length c.args.lin.now ≡ min (length (map (times c.args.weight) c.args.lin.now)) (length c.args.out.now) = rw length-map (omega arith) in
    let stored = c.one_nan.ensures ∙ sym (get_or-map (times c.args.weight) c.args.lin.now c.loop-i.i nan) in
    storing-next _ _ _ _ _ far c.loop-i.invariant _ _ c.loop-i-test.true stored

pub returns : goal.returns
returns c =
    let far : length c.args.lin.now ≡ min (length (map (times c.args.weight) c.args.lin.now)) (length c.args.out.now) = rw length-map (omega arith) in
    mul-done _ _ _ _ c.if-out-lin.false (storing-done _ _ _ _ _ far c.loop-i.invariant c.loop-i-test.false)
