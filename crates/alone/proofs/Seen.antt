-- What a caller can test of the premise: the records' numbers, and the answers of each run's own call.
use mathlib.Core.Path.{◌≡◌}
use mathlib.Core.List.{List}
use mathlib.Core.Logic.{◌⊎◌}
use Prim.Native.Nat.{ℕ, suc, ◌+◌, ◌*◌, ◌<◌}
use native.Mathlib.Nat.{mul_comm}
use native.Mathlib.Omega.{arith}
use lib.Dec.{T}
use lib.ListN.{length}
use lib.Ieee.{Float, nan}
use lib.Ieee.Scale.{finite}
use Rattle.lists.specs.Frames.{expand}
use Rattle.lists.proofs.Expansions.{expand-each}
use Rattle.lists.proofs.Rows.{row_in}
use Rattle.floats.specs.Signs.{nonzero}
use Rattle.region.specs.Rows.{elem}
use Rattle.region.proofs.Readings.{part_elem}
use Rattle.model.specs.Record.{pair_number}
use Rattle.model.specs.Windows.{band_width}
use Rattle.voicing.specs.Mask.{column}
use Rattle.voicing.proofs.Records.{column-length, column-at}
use Rattle.solve.specs.Solve.{solution}
use Rattle.mlpg_adjust.specs.Trajectory.{state_size}
use Rattle.mlpg_adjust.specs.Inner.Groups.{Shaped}
use Rattle.mlpg_adjust.specs.declared.Stream.{Stream}
use Rattle.mlpg_adjust.proofs.Marks.{mask-long}
use Rattle.runs.specs.Alone.{of_run, frame_means, run_matrix, run_side, run_values, run_numbers}
use Rattle.runs.proofs.Masks.{run_lies}
use Rattle.runs.proofs.Parts.{side-long}
use Rattle.alone.specs.Premise.{Sound}
use Rattle.alone.specs.Claim.{mask, count, run}
use Rattle.alone.proofs.Tested.{tested}
use Rattle.alone.proofs.Claim.{number_at}

-- a system whose n values are these
seen : (w n : ℕ) (a r : List Float) (y : ℕ → Float) → 0 < w → length r ≡ n → ((t : ℕ) → t < n → y t ≡ elem (solution w a r) t) → ((t : ℕ) → t < n → T (finite (y t)))
    → ((t : ℕ) → t < n → ((1 < w) × (suc t < n)) ⊎ T (nonzero (y t))) → Sound w a r
seen w n a r y some e same fine shown =
    tested w a r some (λ t h. rw (← same t (omega arith)) (fine t (omega arith))) (λ t h. rw (e, ← same t (omega arith)) (shown t (omega arith)))

module _ (s : Stream) (widths : List ℕ) (coefs records : List Float) (ds : List ℕ) where
  abbrev size : ℕ
  size = state_size s widths

  -- records whose numbers are all finite
  pub means-seen : Shaped s widths coefs records ds → ((j : ℕ) → j < length records → T (finite (elem records j)))
      → (k component i u : ℕ) → k < count s widths coefs records ds → component < s.v → i < length widths → u < (run s widths coefs records ds k).frames
      → T (finite (elem (of_run (run s widths coefs records ds k) (frame_means size records s.threshold ds s.v widths component i)) u))
  unfolding frame_means
  means-seen shaped fine k component i u h c w l =
      let r = run s widths coefs records ds k in
      let n : ℕ = pair_number s.v i component in
      let within : n < size = omega (arith, row_in s.v i (length widths) component w c, mul_comm s.v i) in
      rw (← part_elem r.first r.frames u (expand ds (column size records n (length ds))) l)
      (expand-each (λ y. T (finite y)) ds (column size records n (length ds)) nan (column-length size records n (length ds))
      (λ j b. rw (column-at size records n (length ds) j b) (fine (j * size + n) (omega (arith, shaped.recorded, row_in size j (length ds) n b within))))
      (r.first + u) (omega (arith, run_lies (mask s widths coefs records ds) k h, mask-long s widths records ds)))

  -- answers that are all finite, and at the run's last frame none a zero; where every window has one coefficient, at no frame
  pub sound-seen : ((k p : ℕ) → k < count s widths coefs records ds → p < (run s widths coefs records ds k).frames * s.v → T (finite (elem (run_numbers s widths coefs records ds (run s widths coefs records ds k)) p)))
      → ((k t component : ℕ) → k < count s widths coefs records ds → component < s.v → t < (run s widths coefs records ds k).frames
      → ((1 < band_width widths) × (suc t < (run s widths coefs records ds k).frames)) ⊎ T (nonzero (elem (run_numbers s widths coefs records ds (run s widths coefs records ds k)) (t * s.v + component))))
      → (k component : ℕ) → k < count s widths coefs records ds → component < s.v
      → Sound (band_width widths) (run_matrix size records s.threshold ds s.v widths component coefs (run s widths coefs records ds k))
      (run_side size records s.threshold ds s.v widths component coefs (run s widths coefs records ds k))
  unfolding run_values
  sound-seen fine shown k c h b =
      let r = run s widths coefs records ds k in
      seen (band_width widths) r.frames _ _ (λ t. elem (run_numbers s widths coefs records ds r) (t * s.v + c)) (omega arith) (side-long size records s.threshold ds s.v widths c coefs r)
      (λ t l. number_at s widths coefs records ds r t c l b) (λ t l. fine k (t * s.v + c) h (row_in s.v t r.frames c l b)) (λ t l. shown k t c h b l)
