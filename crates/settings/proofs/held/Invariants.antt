use lib.ListN.{length}
use Rattle.lists.proofs.Chosen.{Counting}
use Rattle.settings.specs.Store.{holds_at}
use Rattle.settings.proofs.held.Given as goal

abbrev pub invariant-loop-place : goal.invariant-loop-place
invariant-loop-place l = Counting (holds_at l.voices) (length l.voices) l.n l.place
