-- Lists that have all slots, and a slot of such lists.
use Rattle.std.specs.Prelude.{List, ℕ, ◌*◌, ◌≤◌, ◌<◌, length, Float}
use Rattle.lists.specs.Sizes.{most_windows, most_set_taps, slot_count}

pub record Long (widths : List ℕ) (coefficients : List Float) : Type 0 where
  pub enough_widths : slot_count * most_windows ≤ length widths
  pub enough_coefficients : slot_count * most_set_taps ≤ length coefficients

pub record Within (s : ℕ) (widths : List ℕ) (coefficients : List Float) : Type 0 where
  pub there : s < slot_count
  pub enough_widths : slot_count * most_windows ≤ length widths
  pub enough_coefficients : slot_count * most_set_taps ≤ length coefficients
