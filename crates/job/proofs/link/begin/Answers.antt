use mathlib.Core.Path.{sym}
use Rattle.std.proofs.lemmas.Result.{err_from_is_err_and}
use Rattle.job.proofs.LinkWays.{begin-refused, begin-taken}
use Rattle.job.proofs.link.begin.Goals as goal

pub returns-in_err-check_begin : goal.returns-in_err-check_begin
returns-in_err-check_begin c =
    let p = err_from_is_err_and c.from_residual.result c.from_residual.ensures.1 in
    rw (p.1, p.2) (begin-refused _ _ c.in_err-check_begin.ensures)

pub returns : goal.returns
returns c =
    begin-taken _ _ _ (sym c.in_ok-check_begin.ensures) c.stage.ensures c.put_little_endian.ensures
