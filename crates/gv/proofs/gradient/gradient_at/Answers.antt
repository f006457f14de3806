use Prim.Native.Nat.{◌*◌}
use native.Mathlib.Nat.{le_refl, add-sub_cancel_left}
use native.Mathlib.Omega.{arith}
use Rattle.lists.proofs.Expansions.{part_length}
use Rattle.gv.proofs.gradient.gradient_at.Goals as goal

pub gradient_by_entries-requires : goal.gradient_by_entries-requires
gradient_by_entries-requires c =
    let s = c.args in
    let q = c.requires in
    rw (part_length s.m.now s.p.values s.n (omega arith), part_length s.m.now s.p.rows (s.n * s.w) (omega arith)) (q.0, q.2, le_refl (s.n * s.w), q.1)

pub returns : goal.returns
returns c = let s = c.args in rw (add-sub_cancel_left s.p.rows (s.n * s.w), add-sub_cancel_left s.p.values s.n) at c.gradient_by_entries.ensures
