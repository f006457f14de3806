use Rattle.std.proofs.Common.{◌∙◌, rules, tests}
use Rattle.std.proofs.lemmas.Iterator.{YieldsList-from_slice}
use Rattle.std.proofs.lemmas.Iterator.Search.{all_from_yields_List}
use Rattle.model.specs.Windows.{between}
use Rattle.model.proofs.Windows.{all_listed}
use Rattle.model.proofs.voice.window.each_width_fits.Goals as goal

pub returns : goal.returns
returns c = all_from_yields_List (between 1 15) _ _ c.all.result c.all.ensures.ran (YieldsList-from_slice c.args.widths.now cc) (λ x b q k. search (rules, tests)) ∙ all_listed (between 1 15) c.args.widths.now
