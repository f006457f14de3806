use mathlib.Core.Path.{sym}
use lib.Seq.{length-take-le}
use Rattle.std.proofs.lemmas.Result.{err_from_is_err_and}
use Rattle.settings.proofs.Refusing.{has_places}
use Rattle.settings.proofs.Changing.{refused_change, cleared}
use Rattle.settings.proofs.clear.Goals as goal

pub returns-in_err-check_store : goal.returns-in_err-check_store
returns-in_err-check_store c = let p = err_from_is_err_and c.from_residual.result c.from_residual.ensures.1 in rw (p.1, p.2) (refused_change _ _ _ _ _ c.in_err-check_store.ensures)

pub slice_bounds-fill-end-2 : goal.slice_bounds-fill-end-2
slice_bounds-fill-end-2 c = sym (length-take-le _ _ (has_places _ _ (sym c.in_ok-check_store.ensures)).0)

pub slice_bounds-fill-end-4 : goal.slice_bounds-fill-end-4
slice_bounds-fill-end-4 c = sym (length-take-le _ _ (has_places _ _ (sym c.in_ok-check_store.ensures)).1)

pub returns : goal.returns
returns c = cleared _ _ _ _ (sym c.in_ok-check_store.ensures) (c.fill.ensures.after (λ y h. h)) (c.fill-2.ensures.after (λ y h. h))
