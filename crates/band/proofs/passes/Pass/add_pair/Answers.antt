use mathlib.Core.Path.{◌≡◌, refl, ◌∙◌}
use Prim.Native.Nat.{◌+◌, ◌-◌, ◌<◌}
use native.Mathlib.Nat.{zero-mul, suc-mul}
use native.Mathlib.Numerals.{add-one}
use native.Mathlib.Omega.{arith}
use lib.ListN.{length, length-set}
use Rattle.lists.specs.Build.{over}
use Rattle.band.proofs.Runs.{both-next, fused-run}
use Rattle.band.proofs.Columns.{column_in, pair-done}
use Rattle.band.proofs.passes.Pass.add_pair.Goals as goal
use Rattle.band.proofs.passes.Pass.add_pair.Goals.{In-loop-t, Start}

-- the places that a turn reads, that of column i the last
module _ (c : In-loop-t) where
  here : c.loop-t.q + (c.args.i - c.args.j) < length c.loop-t.m
  here =
      let k = column_in _ _ c.args.self.b (length c.args.m.now) c.args.i c.loop-t.t c.requires.4 c.requires.2 (omega (arith, c.loop-t-test.true)) in
      omega (arith, c.loop-t.invariant.0, c.requires.1.behind, c.requires.4.fit.room, k)

pub loop-t-init : goal.loop-t-init
unfolding over
loop-t-init c = (omega (arith, zero-mul c.args.self.b.w), refl)

pub loop-t-preserved : goal.loop-t-preserved
loop-t-preserved c =
    let l = c.loop-t in
    (rw add-one (omega (arith, l.invariant.0, suc-mul l.t c.args.self.b.w)), both-next _ _ c.args.self.u _ _ c.args.m.now l.m l.t l.q l.invariant.0 _ _ (omega (arith, c.loop-t-test.true, c.requires.4.pairs)) l.invariant.1)

pub returns : goal.returns
returns c =
    let l = c.loop-t in
    let e : l.t ≡ c.args.self.b.to - c.args.self.b.from = omega (arith, c.loop-t-test.false) in
    pair-done c.args.self.taps.now c.args.self.u c.args.self.b c.args.m.now _ c.requires.4 c.args.j c.args.i c.requires.1 c.requires.2 c.requires.3 c.requires.0
    (rw e at l.invariant.1 ∙ fused-run _ (c.args.i - c.args.j) c.args.self.b.w c.args.self.u _ _ _ _ (omega (arith, c.requires.1.behind)) (omega (arith, c.requires.2, c.requires.4.narrow)) (omega (arith, c.requires.4.pairs)) c.args.m.now)

pub offset_bounds-m-q : goal.offset_bounds-m-q
offset_bounds-m-q c = record { fits = omega (arith, here (goal.at.offset_bounds-m-q c).In-loop-t) }

pub bounds-m-q : goal.bounds-m-q
bounds-m-q c = omega (arith, here (goal.at.bounds-m-q c).In-loop-t)

pub offset_bounds-m-q-in-loop-t : goal.offset_bounds-m-q-in-loop-t
offset_bounds-m-q-in-loop-t c = record { fits = omega (arith, here (goal.at.offset_bounds-m-q-in-loop-t c).In-loop-t) }

pub bounds-m-q-in-loop-t : goal.bounds-m-q-in-loop-t
bounds-m-q-in-loop-t c = omega (arith, here (goal.at.bounds-m-q-in-loop-t c).In-loop-t)

pub overflow_add-m : goal.overflow_add-m
overflow_add-m c = omega (arith, here (goal.at.overflow_add-m c).In-loop-t)

pub offset_bounds-m-q-in-loop-t-2 : goal.offset_bounds-m-q-in-loop-t-2
offset_bounds-m-q-in-loop-t-2 c = record { fits = omega (arith, here (goal.at.offset_bounds-m-q-in-loop-t-2 c).In-loop-t) }

pub bounds-m-q-in-loop-t-2 : goal.bounds-m-q-in-loop-t-2
bounds-m-q-in-loop-t-2 c = rw length-set (here (goal.at.bounds-m-q-in-loop-t-2 c).In-loop-t)

pub overflow_add-m-in-loop-t : goal.overflow_add-m-in-loop-t
overflow_add-m-in-loop-t c = omega (arith, here (goal.at.overflow_add-m-in-loop-t c).In-loop-t)

pub offset_bounds-m-q-in-loop-t-3 : goal.offset_bounds-m-q-in-loop-t-3
offset_bounds-m-q-in-loop-t-3 c = record { fits = omega (arith, here (goal.at.offset_bounds-m-q-in-loop-t-3 c).In-loop-t) }

pub bounds-m-q-in-loop-t-3 : goal.bounds-m-q-in-loop-t-3
bounds-m-q-in-loop-t-3 c = rw length-set (here (goal.at.bounds-m-q-in-loop-t-3 c).In-loop-t)
