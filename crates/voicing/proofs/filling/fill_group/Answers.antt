use mathlib.Core.Path.{refl, ◌≡◌, sym, ap, ◌∙◌}
use mathlib.Core.Bool.{true}
use Prim.Native.Nat.{◌+◌, ◌*◌, ◌<◌, ◌≤◌}
use native.Mathlib.Omega.{arith}
use lib.ListN.{get_or, length}
use lib.Ieee.{nan}
use Rattle.lists.specs.Totals.{total}
use Rattle.std.proofs.iter.Serving.{serving}
use Rattle.lists.proofs.Rows.{row_fits}
use Rattle.lists.proofs.Counts.{count-all}
use Rattle.region.specs.Region.{size_of}
use Rattle.region.specs.declared.Places.{Places}
use Rattle.voicing.proofs.Passes.{passed-fits, passed-room}
use Rattle.voicing.proofs.Fillings.{filling, filled_back, filling-room, filling-voiced, filling_unvoiced}
use Rattle.voicing.proofs.Columns.{columns_filled}
use borrow.Author.Rules.{rules}
use Rattle.voicing.proofs.filling.fill_group.Goals as goal
use Rattle.voicing.proofs.filling.fill_group.Goals.{then-goes_on, else-goes_on, After-goes_on}

-- the state's frames have flags, its numbers have places in the trajectory, and its values are in the regions
module _ (c : After-goes_on) where
  size_is : c.places-places.result.size ≡ size_of c.args.g
  size_is = ap (λ (p : Places). p.size) c.places-places.ensures

  values-end : c.places-places.result.values + c.args.g.n ≡ c.places-places.result.size
  values-end = rw c.places-places.ensures

  frames : c.loop-x.f + get_or c.args.m.durations.now c.loop-x.x-index 0 ≤ total c.args.m.durations.now
  frames = passed-fits c.loop-x.invariant.passed c.loop-x-test.true refl

  places : c.loop-x.p + (get_or c.args.m.durations.now c.loop-x.x-index 0) * c.args.c.v + c.args.c.lanes ≤ length c.loop-x.out + c.args.c.v
  places = filling-room _ _ _ _ _ _ _ _ _ _ _ c.loop-x.invariant c.loop-x-test.true refl c.requires.0.some c.requires.1

  module _ (on : c.goes_on.result ≡ true) where
    values : c.places-places.result.values + c.loop-x.k + get_or c.args.m.durations.now c.loop-x.x-index 0 ≤ c.places-places.result.size
    values = omega (arith, values-end, c.requires.0.voiced, passed-room c.loop-x.invariant.passed c.loop-x-test.true refl (sym on ∙ c.goes_on.ensures) (sym (count-all (get_or c.args.m.durations.now c.loop-x.x-index 0))))

pub put_lanes-requires-clause-room : goal.put_lanes-requires-clause-room
put_lanes-requires-clause-room c = (c.requires.0.most_v, omega (arith, c.requires.0.some), places (goal.at.put_lanes-requires-clause-room c).After-goes_on)

pub loop-x-preserved : goal.loop-x-preserved
loop-x-preserved c =
    let here = (goal.at.loop-x-preserved c).After-goes_on in
    let v : c.args.c.lanes ≤ c.args.c.v = omega (arith, c.requires.0.some) in
    elim c.if-goes_on.branch [
      | then-goes_on w ↦
          let on = w.if-goes_on.true in
          rw (w.out-is, w.k-is) (filling-voiced _ nan _ _ _ _ _ _ _ _ _ c.loop-x.invariant c.loop-x-test.true refl v (sym on ∙ c.goes_on.ensures) (values here on) (rw (size_is here) c.requires.0.room) (w.put_lanes.ensures _ (λ l j y b k e. search rules)))
      | else-goes_on w ↦
          rw (w.out-is, w.k-is) (filling_unvoiced _ nan _ _ _ _ _ _ _ _ _ c.loop-x.invariant c.loop-x-test.true refl v (sym w.if-goes_on.false ∙ c.goes_on.ensures) (w.put_lanes-else-goes_on.ensures _ (λ l j y b k e. search rules)))
    ]

pub returns : goal.returns
returns c =
    let a = c.args in
    rw (c.places-places.ensures, c.one_nan-other.ensures) at (filled_back _ _ _ _ _ _ _ _ _ _ _ c.loop-x.invariant c.loop-x-test.false) ∙ columns_filled a.none a.m.durations.now a.m.flags.now a.g a.c a.work.now a.out.now c.requires.0 c.requires.1

pub loop-x-init : goal.loop-x-init
loop-x-init c = filling _ _ _ _ _ _ _ _ _ _ _

pub goes_on-requires : goal.goes_on-requires
goes_on-requires c = omega (arith, passed-fits c.loop-x.invariant.passed c.loop-x-test.true refl, c.args.m.flagged.room)

pub overflow_add-p : goal.overflow_add-p
overflow_add-p c = omega (arith, places (goal.at.overflow_add-p c).After-goes_on, c.requires.0.most_v, c.well_formed, c.loop-x.invariant.long)

pub overflow_add-f : goal.overflow_add-f
overflow_add-f c = omega (arith, frames (goal.at.overflow_add-f c).After-goes_on, c.args.m.flagged.frames)

pub put_lanes-requires-else-goes_on-clause-room : goal.put_lanes-requires-else-goes_on-clause-room
put_lanes-requires-else-goes_on-clause-room c = (c.requires.0.most_v, omega (arith, c.requires.0.some), places (goal.at.put_lanes-requires-else-goes_on-clause-room c).After-goes_on)

pub put_lanes-requires-clause-gives : goal.put_lanes-requires-clause-gives
put_lanes-requires-clause-gives c = λ l j b k.
    let here = (goal.at.put_lanes-requires-clause-gives c).After-goes_on in
    let n : c.args.c.lanes * c.places-places.result.size ≤ length c.args.work.now = rw (size_is here) c.requires.0.room in
    let r : l * c.places-places.result.size + c.places-places.result.size ≤ length c.args.work.now = omega (arith, n, row_fits c.places-places.result.size l c.args.c.lanes b) in
    let v : c.places-places.result.values + c.loop-x.k + j < c.places-places.result.size = omega (arith, values here c.if-goes_on.true, k) in
    grind (serving, arith)
