use mathlib.Core.Path.{sym, ◌∙◌}
use borrow.Author.Tests.{not-false}
use Rattle.model.proofs.Windows.{fit-few}
use Rattle.mlpg_adjust.proofs.Ways.{in_range, refused_1, refused_2, refused_3, refused_4, refused_5, refused_none}
use Rattle.std.proofs.Common.{ap}
use Rattle.std.proofs.Common.{not}
use Rattle.mlpg_adjust.proofs.refusing.check_stream.Goals as goal

pub returns-then-not-widths_fit : goal.returns-then-not-widths_fit
returns-then-not-widths_fit c = refused_1 _ _ _ _ _ _ c.widths_fit.ensures (ap not c.if-not-widths_fit.true)

pub returns-then-not-all_finite : goal.returns-then-not-all_finite
returns-then-not-all_finite c = refused_2 _ _ _ _ _ _ c.widths_fit.ensures (ap not c.if-not-widths_fit.false) _ c.all_finite.ensures (ap not c.if-not-all_finite.true)

pub returns-then-is_out_of_range : goal.returns-then-is_out_of_range
returns-then-is_out_of_range c = refused_3 _ _ _ _ _ _ c.widths_fit.ensures (ap not c.if-not-widths_fit.false) _ c.all_finite.ensures (ap not c.if-not-all_finite.false) _ c.is_out_of_range.ensures c.if-is_out_of_range.true

pub lists_disagree-requires : goal.lists_disagree-requires
lists_disagree-requires c =
    let r = in_range _ _ (sym c.is_out_of_range.ensures ∙ c.if-is_out_of_range.false) in
    (r.most_v, fit-few _ (sym c.widths_fit.ensures ∙ not-false _ (ap not c.if-not-widths_fit.false)), r.few)

pub returns-then-lists_disagree : goal.returns-then-lists_disagree
returns-then-lists_disagree c = refused_4 _ _ _ _ _ _ c.widths_fit.ensures (ap not c.if-not-widths_fit.false) _ c.all_finite.ensures (ap not c.if-not-all_finite.false) _ c.is_out_of_range.ensures c.if-is_out_of_range.false _ c.lists_disagree.ensures c.if-lists_disagree.true

pub returns : goal.returns
returns c = refused_5 _ _ _ _ _ _ c.widths_fit.ensures (ap not c.if-not-widths_fit.false) _ c.all_finite.ensures (ap not c.if-not-all_finite.false) _ c.is_out_of_range.ensures c.if-is_out_of_range.false _ c.lists_disagree.ensures c.if-lists_disagree.false _ c.total_u32.ensures c.if-total_u32-le65536.false

pub returns-then-total_u32-le65536 : goal.returns-then-total_u32-le65536
returns-then-total_u32-le65536 c = refused_none _ _ _ _ _ _ c.widths_fit.ensures (ap not c.if-not-widths_fit.false) _ c.all_finite.ensures (ap not c.if-not-all_finite.false) _ c.is_out_of_range.ensures c.if-is_out_of_range.false _ c.lists_disagree.ensures c.if-lists_disagree.false _ c.total_u32.ensures c.if-total_u32-le65536.true
