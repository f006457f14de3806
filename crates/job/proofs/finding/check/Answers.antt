use Rattle.std.proofs.lemmas.Result.{err_from_is_err_and}
use Rattle.job.proofs.Damages.{first-told, length-told, joined-few}
use Rattle.job.proofs.finding.check.Goals as goal
use mathlib.Core.Path.{◌∙◌}

pub returns-in_err-and : goal.returns-in_err-and
returns-in_err-and c =
    let p = err_from_is_err_and c.from_residual.result c.from_residual.ensures.1 in
    rw (p.1, p.2) (first-told _ _ _ _ _ c.mark_found-mark.ensures c.word_found-version.ensures c.word_found-count.ensures c.and.ensures _ c.in_err-and.ensures)

pub length_found-requires : goal.length_found-requires
length_found-requires c =
    joined-few _ _ _ _ _ c.mark_found-mark.ensures c.word_found-version.ensures c.word_found-count.ensures c.and.ensures c.in_ok-and.ensures

pub returns : goal.returns
returns c =
    c.length_found.ensures
    ∙ length-told _ _ _ _ _ c.mark_found-mark.ensures c.word_found-version.ensures c.word_found-count.ensures c.and.ensures c.in_ok-and.ensures
