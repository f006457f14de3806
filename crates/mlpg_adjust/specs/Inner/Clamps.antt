-- What only the contracts of counting clamped pairs say.
use Rattle.std.specs.Prelude.{◌≡◌, Bool, cond, List, ℕ, ◌*◌, ◌≤◌, length, take, drop, get_or, Float}
use Rattle.lists.specs.Sizes.{most_windows, most_components, most_frames}
use Rattle.lists.specs.Totals.{total}
use Rattle.lists.specs.Build.{build}
use Rattle.model.specs.declared.mean_vari.Clamp.{Clamp}
use Rattle.model.specs.declared.voice.model.Clamps.{Clamps}
use Rattle.model.specs.Record.{Parameter, from_linear}
use Rattle.model.specs.Weight.{voiced_at}
use Rattle.model.specs.Clamps.{is_high, is_low, variances_of, clamped_in}
use Rattle.voicing.specs.Mask.{weight_at}
use Rattle.mlpg_adjust.specs.Trajectory.{state_size}
use Rattle.mlpg_adjust.specs.declared.Stream.{Stream}

-- how many pairs of state s are clamped so: of one window and one component each, all that its record has
abbrev pub clamped_at : (Clamp → Bool) → ℕ → List Float → ℕ → ℕ
clamped_at so size records s = clamped_in so (variances_of (from_linear (take size (drop (s * size) records))))

-- and of all states: each one's times its frames where it is voiced
unfoldable pub clamped_by_states : (Clamp → Bool) → ℕ → List Float → Float → List ℕ → ℕ
unfolding total build clamped_in
clamped_by_states so size records threshold ds = total (build (λ s. cond (voiced_at threshold (weight_at size records s)) (get_or ds s 0 * clamped_at so size records s) 0) (length ds))

-- a state's part in the counts: its clamped pairs once a frame where it is voiced
abbrev pub state_clamps : Float → ℕ → Parameter → Clamps
state_clamps threshold frames p = record {
  high = cond (voiced_at threshold p.msd) (frames * clamped_in is_high (variances_of p)) 0;
  low = cond (voiced_at threshold p.msd) (frames * clamped_in is_low (variances_of p)) 0;
}

-- both counts
abbrev pub clamps_by_states : ℕ → List Float → Float → List ℕ → Clamps
clamps_by_states size records threshold ds = record { high = clamped_by_states is_high size records threshold ds; low = clamped_by_states is_low size records threshold ds }

-- what is asked of a stream's records: one a state, and no more pairs and frames than allowed
pub record Recorded (s : Stream) (widths : List ℕ) (records : List Float) (ds : List ℕ) : Type 0 where
  pub most_v : s.v ≤ most_components
  pub most-windows : length widths ≤ most_windows
  pub recorded : length records ≡ length ds * state_size s widths
  pub frames : total ds ≤ most_frames
