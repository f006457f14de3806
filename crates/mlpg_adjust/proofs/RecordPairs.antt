-- The numbers that a trajectory reads of a state's record are the pairs that `from_linear` says.
use mathlib.Core.Path.{◌≡◌, ◌∙◌}
use mathlib.Core.Bool.{Bool, true, false}
use mathlib.Core.List.{List}
use Prim.Native.Nat.{ℕ, ◌+◌, ◌*◌, ◌/◌, ◌<◌, ◌≤◌}
use native.Mathlib.Nat.{mul_comm}
use native.Mathlib.Omega.{arith}
use lib.ListN.{length}
use lib.Ieee.{Float}
use Rattle.lists.proofs.Regions.{cut-length}
use Rattle.lists.proofs.Rows.{row_in, row_fits}
use Rattle.std.proofs.Common.{Some}
use Rattle.model.specs.Pair.{pair}
use Rattle.model.specs.Record.{from_linear, pair_at, pair_number}
use Rattle.model.proofs.Records.{pair_found}
use Rattle.region.specs.Rows.{elem}
use Rattle.lists.specs.Parts.{part}
use Rattle.voicing.specs.Mask.{column}
use Rattle.mlpg_adjust.specs.Trajectory.{record_size}
use Rattle.region.proofs.Readings.{part_elem}
use Rattle.voicing.proofs.Records.{column-at}

-- the s-th record of so many numbers, k of them means: its pair n
module _ (size : ℕ) (records : List Float) (s n k : ℕ) (half : size / 2 ≡ k) (room : s * size + size ≤ length records) (h : n < k) where
  pub record_pair : pair_at (from_linear (part (s * size) size records)).parameters n ≡ Some (pair (elem records (s * size + n)) (elem records (s * size + (k + n))))
  record_pair =
      let long : length (part (s * size) size records) ≡ size = cut-length (s * size) size records room in
      pair_found (part (s * size) size records) n (rw (long, half) h)
      ∙ rw (long, half, ← part_elem (s * size) size n records (omega arith), ← part_elem (s * size) size (k + n) records (omega arith))

-- a record's means are half of its numbers, with a weight behind them or without
pub means-half : (v windows : ℕ) (masked : Bool) → record_size v windows masked / 2 ≡ v * windows
means-half v windows true = omega (arith, mul_comm v windows)
means-half v windows false = omega (arith, mul_comm v windows)

-- the columns of means and of variances of a component and window: state s has that pair of its record
module _ (v windows : ℕ) (masked : Bool) (records : List Float) (states s i component : ℕ) (all : length records ≡ states * record_size v windows masked) (t : s < states) (h : i < windows) (c : component < v) where
  pub column-pair : pair_at (from_linear (part (s * record_size v windows masked) (record_size v windows masked) records)).parameters (pair_number v i component)
      ≡ Some (pair (elem (column (record_size v windows masked) records (pair_number v i component) states) s) (elem (column (record_size v windows masked) records (v * windows + pair_number v i component) states) s))
  column-pair =
      let size = record_size v windows masked in
      let n = pair_number v i component in
      record_pair size records s n (v * windows) (means-half v windows masked) (omega (arith, all, row_fits size s states t)) (omega (arith, row_in v i windows component h c, mul_comm v i, mul_comm v windows))
      ∙ rw (column-at size records n states s t, column-at size records (v * windows + n) states s t)
