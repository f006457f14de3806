use Prim.Native.Nat.{◌+◌, ◌*◌, ◌≤◌}
use native.Mathlib.Nat.{add-sub_cancel_left}
use Rattle.lists.proofs.Rows.{row_fits}
use Rattle.solve.proofs.Equations.eliminate_row.Goals as goal
use Rattle.solve.proofs.Equations.eliminate_row.Goals.{Start}

-- row t lies within n rows
fit : (s : Start) → s.args.t * s.args.self.w + s.args.self.w ≤ s.args.self.n * s.args.self.w
fit s = row_fits s.args.self.w s.args.t s.args.self.n s.requires.0

pub returns : goal.returns
returns c = let a = c.args in
    let e = a.self in
    rw (c.factor_row.ensures, rw (add-sub_cancel_left e.p.factors (a.t * e.w), add-sub_cancel_left e.p.values a.t) at c.forward_at-g.ensures)
