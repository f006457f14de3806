use native.Mathlib.Omega.{arith}
use Rattle.lists.specs.Build.{build}
use Rattle.band.proofs.Terms.{add-next, add_done}
use borrow.Author.Rules.{rules}
use Rattle.band.proofs.row.add_taps.Goals as goal

pub loop-j-init : goal.loop-j-init
unfolding build
loop-j-init c = search rules

pub loop-j-preserved : goal.loop-j-preserved
loop-j-preserved c = let s = c.args in
    let l = c.loop-j in add-next s.wu s.taps.now s.row.now l.row l.j _ (omega arith) (omega arith) l.invariant c.add_tap.ensures

pub returns : goal.returns
returns c = let s = c.args in
    let l = c.loop-j in add_done s.wu s.taps.now s.row.now l.row l.j (omega arith) (omega arith) (omega arith) l.invariant
