use mathlib.Core.Path.{refl, sym, ◌∙◌}
use Rattle.std.proofs.lemmas.Result.{err_from_is_err_and}
use lib.Seq.{length-take-le}
use Rattle.settings.proofs.Refusing.{has_places}
use Rattle.settings.proofs.Changing.{not-replaced, replaced}
use Rattle.settings.proofs.file.replace.Goals as goal

pub gather-requires : goal.gather-requires
gather-requires c = (refl, refl)

pub returns-in_err-gather : goal.returns-in_err-gather
returns-in_err-gather c = let p = err_from_is_err_and c.from_residual.result c.from_residual.ensures.1 in rw (p.1, p.2) (not-replaced _ _ _ c.requires _ _ _ c.in_err-gather.ensures)

pub slice_bounds-copy_from_slice-end-2 : goal.slice_bounds-copy_from_slice-end-2
slice_bounds-copy_from_slice-end-2 c = sym (length-take-le _ _ (has_places _ _ c.requires).0)

pub copy_from_slice-requires : goal.copy_from_slice-requires
copy_from_slice-requires c = length-take-le _ _ (has_places _ _ c.requires).0 ∙ sym c.gather.auto.voices

pub slice_bounds-copy_from_slice-end-5 : goal.slice_bounds-copy_from_slice-end-5
slice_bounds-copy_from_slice-end-5 c = sym (length-take-le _ _ (has_places _ _ c.requires).1)

pub copy_from_slice-requires-2 : goal.copy_from_slice-requires-2
copy_from_slice-requires-2 c = length-take-le _ _ (has_places _ _ c.requires).1 ∙ sym c.gather.auto.settings

pub returns : goal.returns
returns c = rw (c.copy_from_slice.ensures.after, c.copy_from_slice-2.ensures.after) (replaced _ _ _ c.requires _ _ c.in_ok-gather.ensures c.gather.auto.voices c.gather.auto.settings)
