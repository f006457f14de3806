use native.Mathlib.Omega.{arith}
use Rattle.settings.proofs.Writing.{putting, putting-next, putting-done}
use Rattle.settings.proofs.file.put_entries.Goals as goal

pub loop-place-init : goal.loop-place-init
loop-place-init c = putting _ _

pub loop-place-preserved : goal.loop-place-preserved
loop-place-preserved c = putting-next c.loop-place.invariant _ _ (omega arith) c.put_place-at.ensures

pub returns : goal.returns
returns c = putting-done c.loop-place.invariant c.args.store.numbers (omega arith)
