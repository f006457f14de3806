use mathlib.Core.Path.{sym}
use Rattle.std.proofs.lemmas.Result.{err_from_is_err_and}
use native.Mathlib.Omega.{arith}
use Rattle.settings.proofs.Changing.{read_short, read-malformed, read_replaced}
use Rattle.settings.proofs.file.read.Goals as goal

pub returns-in_err-check_store : goal.returns-in_err-check_store
returns-in_err-check_store c = let p = err_from_is_err_and c.from_residual.result c.from_residual.ensures.1 in rw (p.1, p.2) (read_short _ _ _ _ c.in_err-check_store.ensures)

pub returns-in_err-check_format : goal.returns-in_err-check_format
returns-in_err-check_format c = let p = err_from_is_err_and c.from_residual-in_err-check_format.result c.from_residual-in_err-check_format.ensures.1 in rw (p.1, p.2) (read-malformed _ _ _ (sym c.in_ok-check_store.ensures) _ c.in_err-check_format.ensures)

pub returns : goal.returns
returns c = read_replaced _ _ _ (sym c.in_ok-check_store.ensures) (λ i. omega (arith, c.type_inv.bytes i)) (sym c.in_ok-check_format.ensures) _ _ _ c.replace.ensures
