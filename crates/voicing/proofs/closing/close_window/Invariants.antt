use mathlib.Core.Path.{◌≡◌}
use Prim.Native.Nat.{◌+◌, ◌*◌}
use lib.ListN.{get_or}
use lib.Ieee.{nan}
use Rattle.model.specs.Pair.{ivar_of}
use Rattle.voicing.specs.Inner.States.{put_pair}
use Rattle.region.proofs.Across.{Passing}
use Rattle.voicing.proofs.closing.close_window.Given as goal

abbrev pub invariant-loop-l : goal.invariant-loop-l
invariant-loop-l l =
    Passing (λ j old new. new ≡ put_pair l.e l.at l.ivars (get_or l.records (l.mean + j) nan) (ivar_of (get_or l.records (l.vari + j) nan)) old) l.size l.l-end l.initial.work l.work l.l (l.l * l.size)
