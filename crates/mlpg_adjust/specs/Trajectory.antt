-- The trajectory of one stream, from its records: mask, boundaries, closing up, normal equations, global variance, filling back.
use Rattle.std.specs.Prelude.{Option, None, Some, Bool, true, false, List, map, ℕ, ◌+◌, ◌*◌, ◌/◌, ◌%◌, length, Float}
use Rattle.std.specs.Float.Ieee.{binary64, mul}
use Rattle.lists.specs.Totals.{total}
use Rattle.lists.specs.Build.{build}
use Rattle.model.specs.Windows.{band_width}
use Rattle.lists.specs.Frames.{expand, select, fill, count}
use Rattle.region.specs.Rows.{elem}
use Rattle.lists.specs.Build.{rows}
use Rattle.band.specs.Paper.{band_rows, right_side}
use Rattle.solve.specs.Solve.{solution}
use Rattle.gv.specs.Parmgen.{parmgen}
use Rattle.lists.specs.Flags.{flag, is_on}
use Rattle.voicing.specs.Mask.{stream_mask}
use Rattle.voicing.specs.Windows.{means_in, ivars_in}
use Rattle.mlpg_adjust.specs.declared.Stream.{Stream}

-- RULES, Pairs: how many numbers a record has: windows * v pairs and, in a masked stream, a weight
abbrev pub record_size : ℕ → ℕ → Bool → ℕ
record_size v windows masked = windows * v + windows * v + flag masked

-- a stream of records of so many numbers, with its mask and windows
module _ (size : ℕ) (records : List Float) (threshold : Float) (ds : List ℕ) where
  -- RULES, Mask: which of the stream's frames are voiced
  abbrev mask : List Bool
  mask = stream_mask size records threshold ds

  module _ (v : ℕ) (widths : List ℕ) (coefs : List Float) (component : ℕ) where
    -- the component's inverse variances of the voiced frames, window after window
    unfoldable pub voiced_ivars : List Float
    unfolding rows ivars_in
    voiced_ivars = rows (ivars_in size records v component widths mask ds) (length widths)

    -- and its means
    unfoldable pub voiced_means : List Float
    unfolding rows means_in
    voiced_means = rows (means_in size records v component mask ds) (length widths)

    -- RULES, Mask: all voiced frames, closed up, are solved together: the matrix of their normal equations
    unfoldable pub matrix : List Float
    unfolding band_rows voiced_ivars
    matrix = band_rows widths coefs (count mask) voiced_ivars (band_width widths)

    -- and the right side
    unfoldable pub side : List Float
    unfolding right_side voiced_ivars voiced_means
    side = right_side widths coefs (count mask) voiced_ivars voiced_means

    -- RULES, Band rows: the values that solve them
    unfoldable pub solved : List Float
    unfolding solution matrix side
    solved = solution (band_width widths) matrix side

    -- RULES, Global variance: the target mean is the GV mean times the weight, and the GV variance stays as given. The list is v means, then v variances
    unfoldable pub varied : Float → List Float → List ℕ → List Float
    unfolding parmgen select expand matrix side solved
    varied weight gv switches =
        parmgen (band_width widths) matrix side (map is_on (select mask (expand ds switches))) (length widths)
        (mul binary64 (elem gv component) weight) (elem gv (v + component)) solved

  -- RULES, Sizes: a trajectory has frames * v numbers, that of a frame and component at frame * v + component; unvoiced frames get the fill number
  unfoldable pub trajectory : ℕ → Float → (ℕ → List Float) → List Float
  unfolding build fill
  trajectory v none values = build (λ p. elem (fill none mask (values (p % v))) (p / v)) (total ds * v)

-- RULES, Global variance: what f makes of the weight where GV is on, and x where it is off
abbrev pub with_gv : {A : Type 0} → Option Float → (Float → A) → A → A
with_gv None f x = x
with_gv (Some weight) f x = f weight

abbrev pub gv_on : Option Float → Bool
gv_on None = false
gv_on (Some weight) = true

-- how many numbers a state of the stream has
abbrev pub state_size : Stream → List ℕ → ℕ
state_size s widths = record_size s.v (length widths) s.masked

-- the trajectory of a stream: each component's values, with GV where it is on
unfoldable pub numbers_of : Stream → List ℕ → List Float → List Float → List ℕ → List Float → List ℕ → List Float
unfolding trajectory varied solved
numbers_of s widths coefs records ds gv switches =
    trajectory (state_size s widths) records s.threshold ds s.v s.fill
    (λ component. with_gv s.gv (λ weight. varied (state_size s widths) records s.threshold ds s.v widths coefs component weight gv switches)
    (solved (state_size s widths) records s.threshold ds s.v widths coefs component))
