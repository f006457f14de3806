use mathlib.Core.Path.{◌≡◌}
use mathlib.Core.List.{map}
use lib.ListN.{length}
use Rattle.lists.specs.Flags.{is_on}
use Rattle.gv.specs.Inner.Turns.{lists_in}
use Rattle.gv.proofs.Turns.{Turning}
use Rattle.gv.proofs.MlpgGlobalVariance.five_turns.Given as goal

abbrev pub invariant-loop : goal.invariant-loop
invariant-loop l = (length l.m ≡ length l.initial.m) × Turning l.self (map is_on l.on) l.gv_mean l.gv_vari (lists_in l.self l.p l.initial.m) l.counter (lists_in l.self l.p l.m) l.s.step l.s.prev
