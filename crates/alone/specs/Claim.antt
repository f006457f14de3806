-- One voiced run alone has the full trajectory's values at its frames.
use Rattle.std.specs.Prelude.{Bool, List, ℕ, ◌+◌, ◌*◌, ◌<◌, T, length, Float}
use Rattle.std.specs.Float.Ieee.Scale.{finite}
use Rattle.floats.specs.Signs.{Same}
use Rattle.model.specs.Windows.{band_width}
use Rattle.region.specs.Rows.{elem}
use Rattle.voicing.specs.Mask.{stream_mask}
use Rattle.mlpg_adjust.specs.Trajectory.{state_size}
use Rattle.mlpg_adjust.specs.declared.Stream.{Stream}
use Rattle.runs.specs.declared.Run.{Run}
use Rattle.runs.specs.Runs.{runs_of, run_at}
use Rattle.runs.specs.Alone.{of_run, frame_means, run_matrix, run_side}
use Rattle.alone.specs.Premise.{Sound}

module _ (s : Stream) (widths : List ℕ) (coefs records : List Float) (ds : List ℕ) where
  -- the voiced frames of the stream, how many runs they are, and run k
  abbrev pub mask : List Bool
  mask = stream_mask (state_size s widths) records s.threshold ds

  abbrev pub count : ℕ
  count = length (runs_of mask)

  abbrev pub run : ℕ → Run
  run k = run_at mask k

  -- RULES, One run alone: the means of the voiced frames are finite, and so is what arises in solving each run by itself, of each component, where no divisor is zero
  pub record Premise : Type 0 where
    pub means : (k component i u : ℕ) → k < count → component < s.v → i < length widths → u < (run k).frames
        → T (finite (elem (of_run (run k) (frame_means (state_size s widths) records s.threshold ds s.v widths component i)) u))
    pub sound : (k component : ℕ) → k < count → component < s.v
        → Sound (band_width widths) (run_matrix (state_size s widths) records s.threshold ds s.v widths component coefs (run k))
        (run_side (state_size s widths) records s.threshold ds s.v widths component coefs (run k))

  -- RULES, One run alone: run k's numbers are those of the full trajectory at its frames, zeros of either sign being the same
  abbrev pub Alone : (full alone : List Float) → ℕ → Type 0
  Alone full alone k = (t component : ℕ) → t < (run k).frames → component < s.v → Same (elem full (((run k).first + t) * s.v + component)) (elem alone (t * s.v + component))
