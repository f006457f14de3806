-- The global variance: rescaled values, then five steps (`parmgen` of `mlpg.rs`).
use Rattle.std.specs.Prelude.{Bool, false, cond, List, ℕ, zero, suc, length, get_or, eqb, Float}
use Rattle.std.specs.Float.{nan, binary64}
use Rattle.std.specs.Float.Ieee.{add, sub, mul, neg}
use Rattle.lists.specs.Build.{build}
use Rattle.lists.specs.Frames.{count}
use Rattle.region.specs.Rows.{elem, entry}
use Rattle.gv.specs.Gv.{step_init, mean_of, vari_of, conv_gv, gradient, weight_of, hmm_obj, gv_obj, size_after, h_of, dv_of, next_g}

-- f k times
unfoldable pub iterate : {A : Type 0} → (A → A) → ℕ → A → A
iterate f zero s = s
iterate f (suc k) s = f (iterate f k s)

-- the values, the size of the step, the objective before
pub data State : Type 0 where
  state : List Float → Float → Float → State

-- its values
abbrev pub values_of : State → List Float
values_of (state par step prev) = par

-- rows `wuw` of width w before factoring, right side `wum`; `on` are the frames that are switched and voiced
module _ (w : ℕ) (wuw wum : List Float) (on : List Bool) (windows : ℕ) (gv_mean gv_vari : Float) where
  -- value t after a step
  unfoldable pub next_at : List Float → Float → Float → Float → List Float → ℕ → Float
  next_at g step mean vari par t =
      let n = length par in
      let weight = weight_of windows n in
      let d = sub binary64 (elem par t) mean in
      add binary64 (elem par t)
      (mul binary64 step
      (next_g weight (dv_of n gv_mean gv_vari vari) (h_of weight n gv_mean gv_vari vari (entry w wuw t 0) d) (get_or on t false) (elem g t) (elem wum t) d))

  -- all of them
  unfoldable pub next_step : List Float → Float → Float → Float → List Float → List Float
  unfolding build next_at
  next_step g step mean vari par = build (next_at g step mean vari par) (length par)

  -- what the descent makes small
  unfoldable pub objective : List Float → Float
  unfolding hmm_obj gradient vari_of
  objective par = neg (add binary64 (hmm_obj (weight_of windows (length par)) wum (gradient w wuw par) par) (gv_obj gv_mean gv_vari (vari_of on par)))

  -- one turn of `parmgen`'s loop
  unfoldable pub turn : State → State
  unfolding next_step objective gradient mean_of vari_of size_after
  turn (state par step prev) =
      let obj = objective par in
      let size = size_after step prev obj in
      state (next_step (gradient w wuw par) size (mean_of on par) (vari_of on par) par) size obj

  -- RULES, Global variance: with no switched frame the solved values stand; else they are rescaled, and exactly five steps follow, the first of size 0.1. Before
  -- the first objective stands NaN, so that its size is kept too, as `if i > 1` says (`parmgen_literal`).
  unfoldable pub parmgen : List Float → List Float
  unfolding iterate turn conv_gv count
  parmgen par = cond (eqb (count on) 0) par (values_of (iterate turn 5 (state (conv_gv on gv_mean par) step_init nan)))
