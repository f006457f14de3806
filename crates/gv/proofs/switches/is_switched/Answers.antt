use mathlib.Core.Path.{sym, ◌∙◌}
use lib.ListN.{get_or-map}
use Rattle.lists.specs.Flags.{is_on}
use Rattle.gv.proofs.Switched.{on_is}
use Rattle.gv.proofs.switches.is_switched.Goals as goal

pub returns : goal.returns
returns c = on_is _ ∙ sym (get_or-map is_on c.args.on.now c.args.t 0)
