-- The trajectory of one voiced run, from its own frames alone.
use Rattle.std.specs.Prelude.{Bool, List, map, ℕ, ◌+◌, ◌*◌, ◌/◌, ◌%◌, Float}
use Rattle.std.proofs.Math.ListN.{length}
use Rattle.lists.specs.Build.{build, rows}
use Rattle.lists.specs.Parts.{part}
use Rattle.lists.specs.Frames.{expand}
use Rattle.model.specs.Pair.{ivar_of}
use Rattle.model.specs.Record.{pair_number}
use Rattle.model.specs.Windows.{band_width}
use Rattle.region.specs.Rows.{elem}
use Rattle.voicing.specs.Mask.{column, stream_mask}
use Rattle.voicing.specs.Boundaries.{lefts, rights, shut_all}
use Rattle.voicing.specs.Windows.{reach_before, reach_after}
use Rattle.band.specs.Paper.{band_rows, right_side}
use Rattle.solve.specs.Solve.{solution}
use Rattle.mlpg_adjust.specs.Trajectory.{state_size}
use Rattle.mlpg_adjust.specs.declared.Stream.{Stream}
use Rattle.runs.specs.declared.Run.{Run}

-- the frames of a run
abbrev pub of_run : {A : Type 0} → Run → List A → List A
of_run r xs = part r.first r.frames xs

-- a stream of records of so many numbers, with its windows and one of its components
module _ (size : ℕ) (records : List Float) (threshold : Float) (ds : List ℕ) (v : ℕ) (widths : List ℕ) (component : ℕ) where
  abbrev mask : List Bool
  mask = stream_mask size records threshold ds

  -- window i's means of all frames
  unfoldable pub frame_means : ℕ → List Float
  unfolding expand column
  frame_means i = expand ds (column size records (pair_number v i component) (length ds))

  -- RULES, Mask: and its inverse variances, zeroed near the ends of each run
  unfoldable pub frame_ivars : ℕ → List Float
  unfolding expand column shut_all lefts rights
  frame_ivars i =
      shut_all (reach_before widths i) (reach_after widths i) (lefts 0 mask) (rights mask)
      (expand ds (map ivar_of (column size records (v * length widths + pair_number v i component) (length ds))))

  module _ (coefs : List Float) (r : Run) where
    -- the run's own, window after window
    unfoldable pub run_ivars : List Float
    unfolding rows frame_ivars
    run_ivars = rows (λ i. of_run r (frame_ivars i)) (length widths)

    unfoldable pub run_means : List Float
    unfolding rows frame_means
    run_means = rows (λ i. of_run r (frame_means i)) (length widths)

    -- RULES, One run alone: the normal equations of the run's frames
    unfoldable pub run_matrix : List Float
    unfolding band_rows run_ivars
    run_matrix = band_rows widths coefs r.frames run_ivars (band_width widths)

    unfoldable pub run_side : List Float
    unfolding right_side run_ivars run_means
    run_side = right_side widths coefs r.frames run_ivars run_means

    -- and the values that solve them
    unfoldable pub run_values : List Float
    unfolding solution run_matrix run_side
    run_values = solution (band_width widths) run_matrix run_side

-- RULES, One run alone: frames * v numbers, component c of the run's frame t at t * v + c
unfoldable pub run_numbers : Stream → List ℕ → List Float → List Float → List ℕ → Run → List Float
unfolding build run_values
run_numbers s widths coefs records ds r =
    build (λ p. elem (run_values (state_size s widths) records s.threshold ds s.v widths (p % s.v) coefs r) (p / s.v)) (r.frames * s.v)
