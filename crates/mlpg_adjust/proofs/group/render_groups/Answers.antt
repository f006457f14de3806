use mathlib.Core.Path.{◌≡◌, refl, subst, ◌∙◌}
use Prim.Native.Nat.{ℕ, ◌+◌, ◌*◌, ◌/◌, ◌≤◌, min}
use native.Mathlib.Omega.{arith}
use lib.ListN.{length}
use Rattle.region.specs.Region.{size_of}
use Rattle.mlpg_adjust.specs.Inner.Groups.{Columned, column_of}
use Rattle.mlpg_adjust.proofs.Calls.{lanes_room}
use Rattle.mlpg_adjust.proofs.Columns.{columned_none}
use Rattle.mlpg_adjust.proofs.group.render_groups.Goals as goal
use Rattle.mlpg_adjust.proofs.group.render_groups.Goals.{After-min-some, After-render_group}

-- the group is of components that are left, and has room
module _ (c : After-min-some) where
  within : c.loop-first.first + c.min-some.result ≤ c.args.p.stream.v
  within = omega (arith, c.min-some.ensures, c.loop-first-test.true)

  room : c.min-some.result * size_of c.args.p.layout ≤ length c.loop-first.work
  room = lanes_room _ _ _ _ _ _ c.requires.0 _ c.floats-lanes.ensures _ _ (omega (arith, c.min-some.ensures)) (c.loop-first.auto.work ∙ c.requires.2)

-- and its columns stand in the trajectory
module _ (c : After-render_group) where
  columned : let a = c.args in
      Columned (column_of a.p.stream a.inputs.widths.now a.inputs.coefficients.now a.inputs.records.now a.inputs.durations.now a.marks.now a.inputs.gv.now) a.p.stream.v (c.loop-first.first + c.min-some.result) c.render_group.new.out
  columned =
      let a = c.args in
      let l = c.loop-first in
      let e : min a.p.stream.v l.first ≡ l.first = omega (arith, c.loop-first-test.true) in
      c.render_group.ensures
      (subst (λ (j : ℕ). Columned (column_of a.p.stream a.inputs.widths.now a.inputs.coefficients.now a.inputs.records.now a.inputs.durations.now a.marks.now a.inputs.gv.now) a.p.stream.v j l.out) e l.invariant)

pub render_group-requires : goal.render_group-requires
render_group-requires c =
    let p = (goal.at.render_group-requires c).After-min-some in
    (c.requires.0, c.requires.1, refl, within p, room p, c.loop-first.auto.out ∙ c.requires.3)

pub loop-first-preserved : goal.loop-first-preserved
loop-first-preserved c =
    let l = c.loop-first in
    let v = c.args.p.stream.v in
    let n : l.first + c.min-some.result ≡ min v (l.first + 48 / c.floats-lanes.result) = omega (arith, c.min-some.ensures, c.loop-first-test.true) in
    rw n at (columned (goal.at.loop-first-preserved c).After-render_group)

pub returns : goal.returns
returns c =
    let v = c.args.p.stream.v in
    let e : min v c.loop-first.first ≡ v = omega (arith, c.loop-first-test.false) in
    rw e at c.loop-first.invariant

-- there is no group after this one
pub returns-2 : goal.returns-2
returns-2 c =
    let e : c.loop-first.first + c.min-some.result ≡ c.args.p.stream.v = omega (arith, c.min-some.ensures, c.loop-first-test.true) in
    rw e at (columned (goal.at.returns-2 c).After-render_group)

pub loop-first-init : goal.loop-first-init
loop-first-init c =
    let e : 0 ≡ min c.args.p.stream.v 0 = omega arith in
    rw (← e) (columned_none _ _ _)

pub nonzero_div-lanes : goal.nonzero_div-lanes
nonzero_div-lanes c = omega (arith, c.floats-lanes.ensures)
