-- How large a sum of durations is.
use Rattle.std.specs.Prelude.{◌≡◌, List, ℕ, ◌*◌, ◌≤◌}
use Rattle.lists.specs.Totals.{total}

-- a sum of at most 4,096 numbers of 32 bits, and how large it can be
pub record Summed (durations : List ℕ) (r : ℕ) : Type 0 where
  pub sum : r ≡ total durations
  pub small : r ≤ 4096 * 4294967295
