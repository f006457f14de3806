use mathlib.Core.Path.{sym, ap}
use Prim.Native.Nat.{ℕ, ◌-◌}
use native.Mathlib.Omega.{arith}
use Rattle.std.proofs.lemmas.Result.{err_from_is_err_and}
use Rattle.job.proofs.Memory.{open_stage}
use Rattle.job.proofs.LinkWays.{not-came, has-come}
use Rattle.job.proofs.link.came_in.Goals as goal

pub returns-in_err-check_open : goal.returns-in_err-check_open
returns-in_err-check_open c =
    let p = err_from_is_err_and c.from_residual.result c.from_residual.ensures.1 in
    rw (p.1, p.2) (not-came _ _ c.in_err-check_open.ensures)

pub overflow_sub-result : goal.overflow_sub-result
overflow_sub-result c = omega (arith, (open_stage _ (sym c.in_ok-check_open.ensures)).0, c.little_endian.ensures)

pub returns : goal.returns
returns c = has-come _ _ c.in_ok-check_open.ensures (ap (λ (n : ℕ). n - 1) c.little_endian.ensures)
