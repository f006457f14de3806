use mathlib.Core.Path.{ap}
use Prim.Native.Nat.{◌+◌, ◌*◌}
use native.Mathlib.Nat.{add-sub_cancel_left}
use lib.ListN.{set}
use Rattle.solve.proofs.Equations.backward_row.Goals as goal

pub returns : goal.returns
returns c = let a = c.args in
    let e = a.self in
    ap (set a.m.now (e.p.values + a.t)) (rw (add-sub_cancel_left e.p.factors (e.n * e.w), add-sub_cancel_left e.p.values e.n) at c.backward_at-x.ensures)
