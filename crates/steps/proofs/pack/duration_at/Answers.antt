use mathlib.Core.Path.{sym}
use Rattle.steps.proofs.Packs.{get_or-lows}
use Rattle.steps.proofs.pack.duration_at.Goals as goal

pub returns : goal.returns
returns c = sym (get_or-lows c.args.work.now c.args.p)
