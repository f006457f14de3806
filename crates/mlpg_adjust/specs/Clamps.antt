-- RULES, Clamps: how many pairs of a stream's voiced frames are clamped.
-- Variances are judged as the records give them; what the equations take are their inverses, zeroed near the ends of runs.
use Rattle.std.specs.Prelude.{Bool, List, ℕ, length, Float}
use Rattle.lists.specs.Totals.{total}
use Rattle.lists.specs.Build.{build, rows}
use Rattle.model.specs.declared.mean_vari.Clamp.{Clamp}
use Rattle.model.specs.Clamps.{is_high, is_low, clamped_in}
use Rattle.voicing.specs.Mask.{stream_mask}
use Rattle.voicing.specs.Windows.{variances_in}
use Rattle.mlpg_adjust.specs.Trajectory.{state_size}
use Rattle.mlpg_adjust.specs.declared.Stream.{Stream}

-- a stream of records of so many numbers, with its mask and windows
module _ (size : ℕ) (records : List Float) (threshold : Float) (ds : List ℕ) (v : ℕ) (widths : List ℕ) where
  -- a component's variances of the voiced frames, window after window, before the inverse of any is zeroed near the ends of a run
  unfoldable pub voiced_varis : ℕ → List Float
  unfolding rows variances_in
  voiced_varis component = rows (variances_in size records v component widths (stream_mask size records threshold ds) ds) (length widths)

  -- RULES, Clamps: how many pairs are clamped so: each pair, of a window and a component, once a voiced frame
  unfoldable pub clamped_over : (Clamp → Bool) → ℕ
  unfolding total build clamped_in voiced_varis
  clamped_over so = total (build (λ component. clamped_in so (voiced_varis component)) v)

-- of a stream, high
abbrev pub clamped_high : Stream → List ℕ → List Float → List ℕ → ℕ
clamped_high s widths records ds = clamped_over (state_size s widths) records s.threshold ds s.v widths is_high

-- and low
abbrev pub clamped_low : Stream → List ℕ → List Float → List ℕ → ℕ
clamped_low s widths records ds = clamped_over (state_size s widths) records s.threshold ds s.v widths is_low
