use mathlib.Core.Path.{◌≡◌}
use Rattle.region.specs.Inner.Passes.{Across}
use Rattle.voicing.specs.Inner.States.{put_pairs}
use Rattle.voicing.proofs.closing.close_state.Given as goal

abbrev pub invariant-loop-i : goal.invariant-loop-i
invariant-loop-i here = Across (λ l old new. new ≡ put_pairs here.records here.p here.mean here.widths here.t l here.i old) here.p.size here.p.lanes here.initial.work here.work
