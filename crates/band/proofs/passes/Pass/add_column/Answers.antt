use mathlib.Core.Path.{◌≡◌, refl, ap, ◌∙◌}
use Prim.Native.Nat.{◌-◌, ◌<◌, max}
use native.Mathlib.Nat.{zero-mul, suc-mul}
use native.Mathlib.Numerals.{add-one}
use native.Mathlib.Omega.{arith}
use lib.ListN.{length}
use Rattle.lists.specs.Build.{over}
use Rattle.std.proofs.lemmas.Bool.Decides.{nat_tests}
use Rattle.band.proofs.Runs.{scaled-next}
use Rattle.band.proofs.Columns.{column_in, column-done}
use Rattle.band.proofs.passes.Pass.add_column.Goals as goal
use Rattle.band.proofs.passes.Pass.add_column.Goals.{In-loop-t, Start}

-- the places that a turn reads
module _ (c : In-loop-t) where
  here : c.loop-t.q < length c.loop-t.m
  here =
      let k = column_in _ _ c.args.self.b (length c.args.m.now) c.args.j c.loop-t.t c.requires.2 c.requires.0 (omega (arith, c.loop-t-test.true, c.max-to.ensures, c.min.ensures, c.requires.2.some)) in
      omega (arith, c.loop-t.invariant.0, c.requires.2.fit.room, k)

pub loop-t-init : goal.loop-t-init
unfolding over
loop-t-init c = (omega (arith, zero-mul c.args.self.b.w), refl)

pub loop-t-preserved : goal.loop-t-preserved
loop-t-preserved c =
    let l = c.loop-t in
    (rw add-one (omega (arith, l.invariant.0, suc-mul l.t c.args.self.b.w)), scaled-next _ c.args.self.b.w c.args.self.u _ _ c.args.m.now l.m l.t l.q l.invariant.0 l.invariant.1)

pub returns : goal.returns
returns c =
    let l = c.loop-t in
    let to : c.max-to.result ≡ max c.args.self.b.from c.min.result = grind (arith, nat_tests) in
    let e : l.t ≡ c.max-to.result - c.args.self.b.from = omega (arith, c.loop-t-test.false) in
    column-done c.args.self.taps.now c.args.self.u c.args.self.b c.args.m.now c.requires.2 c.args.j c.requires.0 c.requires.1 c.max-to.result (to ∙ ap (max c.args.self.b.from) c.min.ensures) _ (rw e at l.invariant.1)

pub bounds-m-q : goal.bounds-m-q
bounds-m-q c = here (goal.at.bounds-m-q c).In-loop-t

pub bounds-m-q-in-loop-t : goal.bounds-m-q-in-loop-t
bounds-m-q-in-loop-t c = here (goal.at.bounds-m-q-in-loop-t c).In-loop-t
