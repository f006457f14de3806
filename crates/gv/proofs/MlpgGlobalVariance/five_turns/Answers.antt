use mathlib.Core.Path.{◌≡◌, refl, ◌∙◌}
use mathlib.Core.List.{map}
use native.Mathlib.Omega.{arith}
use Rattle.lists.specs.Flags.{is_on}
use Rattle.gv.specs.Inner.Turns.{lists_in}
use Rattle.gv.proofs.Turns.{lists-factors, lists-values, turning_none, turning_next}
use Rattle.gv.proofs.MlpgGlobalVariance.five_turns.Goals as goal

pub loop-init : goal.loop-init
loop-init c =
    let a = c.args in
    (refl, turning_none a.self (map is_on a.on.now) a.gv_mean a.gv_vari (lists_in a.self a.p a.m.now) _ _ c.start-s.ensures.0 c.start-s.ensures.1)

pub turn-s-requires : goal.turn-s-requires
turn-s-requires c = let q = c.requires in (rw c.loop.invariant.0 q.0, q.1, q.2)

pub loop-preserved : goal.loop-preserved
loop-preserved c =
    let l = c.loop in
    let a = c.args in
    let t = c.turn-s in
    (t.auto.m ∙ l.invariant.0, turning_next a.self (map is_on a.on.now) a.gv_mean a.gv_vari (lists_in a.self a.p a.m.now) (lists-factors _ _ _ c.requires.0) (lists-values _ _ _ c.requires.0) l.counter (lists_in a.self a.p l.m) _ l.s.step l.s.prev _ _ l.invariant.1 t.ensures)

pub returns : goal.returns
returns c = let e : c.loop.counter ≡ 5 = omega arith in rw e at c.loop.invariant.1.region
