use mathlib.Core.Path.{◌≡◌}
use mathlib.Core.List.{map}
use native.Mathlib.Omega.{arith}
use lib.ListN.{length}
use lib.Ieee.{nan}
use Rattle.lists.specs.Build.{build}
use Rattle.lists.specs.Flags.{is_on}
use Rattle.lists.proofs.Fills.{build-next, build-read, build-done}
use Rattle.gv.specs.Gv.{conv_at}
use borrow.Author.Rules.{rules}
use Rattle.gv.proofs.switches.rescale.Goals as goal

pub loop-t-init : goal.loop-t-init
unfolding build
loop-t-init c = (search rules, search rules)

pub loop-t-preserved : goal.loop-t-preserved
loop-t-preserved c =
    let s = c.args in
    let l = c.loop-t in
    let f = conv_at (map is_on s.on.now) s.mean s.ratio s.par.now in
    let e : c.conv_at-x.result ≡ f l.t = rw (build-read f s.par.now l.par l.t nan (omega arith) l.invariant.1) at c.conv_at-x.ensures in
    (search rules, build-next f s.par.now l.par l.t _ nan (omega arith) e l.invariant.1)

pub returns : goal.returns
returns c =
    let s = c.args in
    let l = c.loop-t in
    build-done (conv_at (map is_on s.on.now) s.mean s.ratio s.par.now) s.par.now l.par l.t (length s.par.now) (omega arith) (omega arith) l.invariant.1
