use mathlib.Core.Path.{sym}
use Rattle.std.proofs.lemmas.Result.{err_from_is_err_and}
use Rattle.runs.proofs.Ways.{inputs-refused}
use Rattle.runs.proofs.create_run.Goals as goal

pub returns-in_err-check_stream : goal.returns-in_err-check_stream
returns-in_err-check_stream c = let p = err_from_is_err_and c.from_residual.result c.from_residual.ensures.1 in rw (p.1, p.2) (inputs-refused _ _ _ _ _ _ _ _ _ _ _ _ c.in_err-check_stream.ensures)

pub answer-requires : goal.answer-requires
answer-requires c = sym c.in_ok-check_stream.ensures
