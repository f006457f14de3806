use mathlib.Core.Path.{◌≡◌, ◌∙◌}
use mathlib.Core.Bool.{not}
use borrow.Author.Rules.{rules}
use lib.Dec.{eqb}
use Rattle.std.specs.List.{position}
use Rattle.std.proofs.lemmas.Iterator.{YieldsList-from_slice}
use Rattle.std.proofs.lemmas.Iterator.Search.{position_from_yields_List}
use Rattle.gv.proofs.Switched.{first_or_end}
use Rattle.gv.proofs.switches.first_on.Goals as goal

pub returns : goal.returns
returns c =
    let on = c.args.on.now in
    let e : c.position.result ≡ position (λ x. not (eqb x 0)) on = position_from_yields_List (λ x. not (eqb x 0)) _ _ _ c.position.ensures.ran (YieldsList-from_slice on cc) (λ x b q k. search rules) in
    (rw e at c.unwrap_or.ensures) ∙ first_or_end on
