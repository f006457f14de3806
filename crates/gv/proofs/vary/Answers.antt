use mathlib.Core.Path.{◌≡◌, sym, ◌∙◌}
use mathlib.Core.Bool.{true}
use native.Mathlib.Omega.{arith}
use borrow.Author.Tests.{not-false}
use lib.ListN.{length}
use Rattle.gv.specs.Promise.{opens}
use Rattle.gv.proofs.Door.{Opened, opened, suited, none-varied, all-varied}
use Rattle.std.proofs.Common.{ap}
use Rattle.std.proofs.Common.{not}
use Rattle.gv.proofs.vary.Goals as goal
use Rattle.gv.proofs.vary.Goals.{Else-not-opens}

-- behind the door
module _ (c : Else-not-opens) where
  open-so : opens c.args.g (length c.args.on.now) (length c.args.means.now) (length c.args.varis.now) (length c.args.work.now) ≡ true
  open-so = sym c.opens.ensures ∙ not-false _ (ap not c.if-not-opens.false)

  door : Opened c.args.g (length c.args.on.now) (length c.args.means.now) (length c.args.varis.now) (length c.args.work.now)
  door = opened _ _ _ _ _ open-so

pub returns-then-not-opens : goal.returns-then-not-opens
returns-then-not-opens c = let s = c.args in none-varied s.g s.on.now s.means.now s.varis.now s.weight s.work.now _ c.opens.ensures (ap not c.if-not-opens.true)

pub parmgen_each-requires : goal.parmgen_each-requires
parmgen_each-requires c =
    let k = c.new-s.ensures in
    rw c.places.ensures (suited _ _ _ _ _ _ _ (door (goal.at.parmgen_each-requires c).Else-not-opens) (omega (arith, c.well_formed)) k, k.counted, (door (goal.at.parmgen_each-requires c).Else-not-opens).pairs, (door (goal.at.parmgen_each-requires c).Else-not-opens).room)

pub returns : goal.returns
returns c =
    let s = c.args in
    all-varied s.g s.on.now s.means.now s.varis.now s.weight s.work.now _ c.new-s.result c.places.result (open-so (goal.at.returns c).Else-not-opens) c.new-s.ensures c.places.ensures c.parmgen_each.ensures

pub new-s-requires : goal.new-s-requires
new-s-requires c = (door (goal.at.new-s-requires c).Else-not-opens).switches
