use mathlib.Core.Path.{◌≡◌, ◌∙◌}
use mathlib.Core.Bool.{not}
use borrow.Author.Rules.{rules}
use lib.Dec.{eqb}
use Rattle.std.specs.List.{count_by}
use Rattle.gv.proofs.Switched.{count_is}
use Rattle.gv.proofs.switches.count_on.Goals as goal

pub returns : goal.returns
returns c = let e : c.count.result ≡ count_by (λ x. not (eqb x 0)) c.args.on.now = search rules in e ∙ count_is c.args.on.now
