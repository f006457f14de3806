use mathlib.Core.Path.{◌≡◌, refl, sym, subst, ap, ◌∙◌}
use mathlib.Core.Bool.{true}
use Prim.Native.Nat.{ℕ, ◌*◌, ◌≤◌}
use native.Mathlib.Omega.{arith}
use borrow.Author.Tests.{not-false}
use lib.ListN.{length}
use Rattle.lists.proofs.Expansions.{part_length}
use Rattle.region.specs.Region.{size_of}
use Rattle.region.specs.declared.Places.{Places}
use Rattle.region.proofs.Lanes.{region-fits, stepped_lent}
use Rattle.band.specs.Promise.{opens}
use Rattle.band.proofs.Door.{Opened, opened, all-rowed}
use Rattle.std.proofs.Common.{not}
use Rattle.band.proofs.calc_rows.Goals as goal
use Rattle.band.proofs.calc_rows.Goals.{After-places-p, In-loop-l}

-- behind the door
module _ (c : After-places-p) where
  open-so : opens c.args.widths.now c.args.coefficients.now c.args.g c.args.lanes (length c.args.work.now) ≡ true
  open-so = sym c.opens.ensures ∙ not-false _ (ap not c.if-not-opens.false)

  door : Opened c.args.widths.now c.args.coefficients.now c.args.g c.args.lanes (length c.args.work.now)
  door = opened _ _ _ _ _ open-so

  size : c.places-p.result.size ≡ size_of c.args.g
  size = ap (λ (p : Places). p.size) c.places-p.ensures

  room : c.args.lanes * c.places-p.result.size ≤ length c.args.work.now
  room = subst (λ (z : ℕ). c.args.lanes * z ≤ length c.args.work.now) (sym size) door.room

pub calc_wuw_and_wum-requires : goal.calc_wuw_and_wum-requires
calc_wuw_and_wum-requires c =
    let l = c.loop-l in
    let s = (goal.at.calc_wuw_and_wum-requires c).After-places-p in
    let k = room s in
    ((door s).set, (door s).windows, part_length l.work _ _ (region-fits _ c.args.lanes l.l l.work c.loop-l-test.true (omega (arith, k))) ∙ size s)

pub loop-l-preserved : goal.loop-l-preserved
loop-l-preserved c =
    let l = c.loop-l in
    let k = room (goal.at.loop-l-preserved c).After-places-p in
    stepped_lent _ _ _ _ _ _ _ _ c.loop-l-test.true (omega (arith, k)) l.invariant refl c.calc_wuw_and_wum.auto.m c.calc_wuw_and_wum.ensures

pub returns : goal.returns
returns c =
    let l = c.loop-l in
    let s = c.args in
    all-rowed s.widths.now s.coefficients.now s.g s.lanes s.work.now _ _ (size (goal.at.returns c).After-places-p) (open-so (goal.at.returns c).After-places-p)
    (record { long = l.invariant.long; each = λ j b. l.invariant.done j (omega arith); behind = l.invariant.behind })
