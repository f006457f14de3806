-- So many steps, one after the other. No public call's promise names any of it.
use Rattle.std.specs.Prelude.{Bool, true, false, List, ℕ, zero, suc, ◌+◌, ◌≤◌, Float}
use Rattle.lists.specs.Sizes.{most_frames}
use Rattle.steps.specs.Steps.{States, step}

-- the durations after so many steps up (true) or down (false)
unfoldable pub stepped : Bool → Float → States → List ℕ → ℕ → List ℕ
stepped up rho ss ds zero = ds
stepped up rho ss ds (suc k) = step up rho ss (stepped up rho ss ds k)

-- there is room for so many, of states with this total and this sum of the shortest
abbrev pub RoomForAll : Bool → ℕ → ℕ → ℕ → Type 0
RoomForAll true low sum k = sum + k ≤ most_frames
RoomForAll false low sum k = low + k ≤ sum
