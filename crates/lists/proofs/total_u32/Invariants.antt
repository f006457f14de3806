use Rattle.std.proofs.Common.{◌≡◌, ◌*◌, ◌≤◌, take}
use Rattle.lists.specs.Totals.{total}
use Rattle.lists.proofs.total_u32.Given as goal

abbrev pub invariant-loop-x : goal.invariant-loop-x
invariant-loop-x l = (l.sum ≡ total (take l.x-index l.x-items)) × (l.sum ≤ l.x-index * 4294967295)
