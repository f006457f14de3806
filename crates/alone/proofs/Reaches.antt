-- Near the ends of a run the inverse variances are zeros, as far as a window reaches.
use mathlib.Core.Path.{◌≡◌, sym, ap, ◌∙◌}
use mathlib.Core.Bool.{Bool}
use mathlib.Core.List.{List}
use Prim.Native.Nat.{ℕ, zero, suc, ◌+◌, ◌<◌}
use native.Mathlib.Omega.{arith}
use lib.Dec.{eqb-suc-zero}
use lib.ListN.{length, get_or}
use lib.Ieee.{Float, of_bits}
use Rattle.floats.specs.Signs.{Zero}
use Rattle.region.specs.Rows.{elem}
use Rattle.region.proofs.Readings.{part_elem}
use Rattle.model.specs.Windows.{width_of, left_width, right_width}
use Rattle.voicing.specs.Boundaries.{lefts, rights, shut, shut_all}
use Rattle.voicing.specs.Windows.{reach_before, reach_after}
use Rattle.voicing.proofs.Theory.{lefts-length, rights-length}
use Rattle.voicing.proofs.Runs.{shut-first, shut-last, shut_at}
use Rattle.runs.specs.declared.Run.{Run}
use Rattle.runs.specs.Runs.{runs_of, run_at}
use Rattle.runs.specs.Alone.{of_run}
use Rattle.runs.proofs.Masks.{run_lies, run-left, run-right}

-- a first window of one coefficient reaches nowhere, so that every window loses what it reaches
module _ (widths : List ℕ) (one : width_of widths 0 ≡ 1) where
  pub reaches-before : (i : ℕ) → reach_before widths i ≡ left_width (width_of widths i)
  reaches-before zero = rw one
  reaches-before (suc i) = rw eqb-suc-zero

  pub reaches-after : (i : ℕ) → reach_after widths i ≡ right_width (width_of widths i)
  reaches-after zero = rw one
  reaches-after (suc i) = rw eqb-suc-zero

-- ---- those of a run

module _ (bs : List Bool) (k : ℕ) (h : k < length (runs_of bs)) where
  abbrev r : Run
  r = run_at bs k

  module _ (before after : ℕ) (vs : List Float) (long : length vs ≡ length bs) (u : ℕ) (l : u < r.frames) where
    abbrev shut_by : List Float
    shut_by = shut_all before after (lefts 0 bs) (rights bs) vs

    in_run : elem (of_run r shut_by) u ≡ shut before after u (get_or (rights bs) (r.first + u) 0) (elem vs (r.first + u))
    in_run =
        let n : length (lefts 0 bs) ≡ length bs = lefts-length 0 bs in
        sym (part_elem r.first r.frames u shut_by l)
        ∙ shut_at before after (lefts 0 bs) (rights bs) vs (r.first + u) (omega (arith, run_lies bs k h)) (rights-length bs ∙ sym n) (long ∙ sym n)
        ∙ ap (λ (d : ℕ). shut before after d (get_or (rights bs) (r.first + u) 0) (elem vs (r.first + u))) (run-left bs k h u l)

    pub zero-begin : u < before → Zero (elem (of_run r shut_by) u)
    unfolding of_bits
    zero-begin b = rw (in_run, shut-first before after u (get_or (rights bs) (r.first + u) 0) (elem vs (r.first + u)) b)

    pub zero-end : r.frames < u + (after + 1) → Zero (elem (of_run r shut_by) u)
    unfolding of_bits
    zero-end b = rw (in_run, shut-last before after u (get_or (rights bs) (r.first + u) 0) (elem vs (r.first + u)) (omega (arith, run-right bs k h u l)))
