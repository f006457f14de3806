use Rattle.std.proofs.Common.{◌∙◌, rules}
use Rattle.std.proofs.lemmas.Iterator.{YieldsList-from_slice}
use Rattle.std.proofs.lemmas.Iterator.Search.{all_from_yields_List}
use Rattle.model.specs.Windows.{finite, all_finite}
use Rattle.model.proofs.Windows.{all_listed, finite_is}
use Rattle.model.proofs.voice.window.all_finite.Goals as goal

pub returns : goal.returns
unfolding all_finite
returns c = all_from_yields_List finite _ _ c.all.result c.all.ensures.ran (YieldsList-from_slice c.args.coefficients.now cc) (λ x b q k. search (rules, finite_is)) ∙ all_listed finite c.args.coefficients.now
