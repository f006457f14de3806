use Rattle.std.proofs.Common.{◌≡◌, ◌*◌, ◌≤◌, take}
use Rattle.lists.specs.Totals.{total}
use Rattle.steps.proofs.totals_of.Given as goal

abbrev pub invariant-loop-i : goal.invariant-loop-i
invariant-loop-i l = record {
  least : l.least ≡ total (take l.i l.shortest);
  sum : l.sum ≡ total (take l.i l.work);
  small_least : l.least ≤ l.i * 4294967295;
  small_sum : l.sum ≤ l.i * 4294967295;
}
