use Rattle.std.proofs.Common.{refl, arith, length}
use lib.Ieee.{nan}
use Rattle.std.proofs.lemmas.List.{length_push}
use Rattle.std.proofs.lemmas.Slice.Zip.{zip_turn, zip_end}
use Rattle.model.specs.Pair.{sum_of}
use Rattle.model.proofs.Pairs.{sum-next, sum_done}
use Rattle.model.proofs.mean_vari.sum.Goals as goal

pub loop-mean-init : goal.loop-mean-init
unfolding sum_of
loop-mean-init c = rw c.zero-total.ensures

pub loop-mean-preserved : goal.loop-mean-preserved
loop-mean-preserved c =
    let l = c.loop-mean in
    let t = zip_turn c.args.means.now c.args.varis.now l.yielded c.into_iter-mean-iterator.result l.mean-iterator c.next.new.self c.next.result (cc) (cc) l.yielded_by (c.in-Some.mean, c.in-Some.vari) c.in-Some.is c.next.ensures.steps in
    rw (c.add-total.ensures, c.new.ensures, length_push, t.2 nan, t.3 nan) (sum-next c.args.means.now c.args.varis.now _ (length l.yielded) refl l.total (omega arith) l.invariant)

pub returns : goal.returns
returns c =
    let l = c.loop-mean in
    let e = zip_end c.args.means.now c.args.varis.now l.yielded c.into_iter-mean-iterator.result l.mean-iterator c.next.new.self c.next.result (cc) (cc) l.yielded_by c.in-None.is c.next.ensures.steps in
    sum_done c.args.means.now c.args.varis.now _ (length l.yielded) refl l.total (omega arith) l.invariant
