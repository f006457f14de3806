use native.Mathlib.Omega.{arith}
use lib.Ieee.{nan}
use Rattle.lists.specs.Build.{build}
use Rattle.lists.proofs.Builds.{build-at}
use Rattle.lists.proofs.Fills.{build-length}
use Rattle.voicing.proofs.Fillings.{column-next, put_next, put-done}
use Rattle.voicing.proofs.filling.put_column.Goals as goal

pub loop-j-preserved : goal.loop-j-preserved
loop-j-preserved g c =
    let s = c.args in
    let l = c.loop-j in (
      column-next s.p l.q l.j s.v l.invariant.0,
      λ x h. rw (h _ _ c.loop-j-test.true c.number.ensures, ← build-at x s.d l.j nan c.loop-j-test.true) (put_next s.v l.q l.j _ l.out _ nan (omega (arith, build-length x s.d, c.loop-j-test.true)) (l.invariant.1 x h)),
    )

pub returns : goal.returns
returns g c = λ x h. put-done c.args.v _ c.loop-j.j (build x c.args.d) _ _ (omega (arith, build-length x c.args.d, c.loop-j-test.false)) (c.loop-j.invariant.1 x h)
