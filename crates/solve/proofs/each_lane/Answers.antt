use mathlib.Core.Path.{◌≡◌, refl}
use Prim.Native.Nat.{◌+◌, ◌*◌}
use native.Mathlib.Nat.{add-mul}
use native.Mathlib.Omega.{arith}
use Rattle.std.specs.Fork.{ChangesAt}
use Rattle.region.proofs.Lanes.{stepped_lent}
use Rattle.solve.proofs.each_lane.Goals as goal

pub loop-l-preserved : goal.loop-l-preserved
loop-l-preserved g c = let l = c.loop-l in
    let e : l.o + c.args.size ≡ (l.l + 1) * c.args.size = omega (arith, l.invariant.0, add-mul l.l 1 c.args.size) in (
      e,
      stepped_lent (ChangesAt g.F.Fn c.args.f) _ _ _ _ _ _ _ c.loop-l-test.true (omega (arith, c.requires.room, l.invariant.1.long)) l.invariant.1 l.invariant.0 c.f.auto.arg3
          (record { argument = _; argument_is = refl; after_call = _; call = c.f.ensures; left = refl }),
    )
