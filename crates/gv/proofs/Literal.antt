-- `if i > 1` of `parmgen` in so many words: the first turn keeps the size, whatever the objective, and four more compare.
use mathlib.Core.Path.{◌≡◌, refl, ap, ◌∙◌}
use mathlib.Core.Bool.{Bool, cond}
use mathlib.Core.List.{List}
use Prim.Native.Nat.{ℕ, zero, suc}
use lib.Dec.{eqb}
use lib.Ieee.{Float, nan, inf, fin, lt}
use Rattle.lists.specs.Frames.{count}
use Rattle.gv.specs.Gv.{step_init, mean_of, vari_of, conv_gv, gradient, size_after}
use Rattle.gv.specs.Parmgen.{iterate, State, state, values_of, next_step, objective, turn, parmgen}

iterate_shift : {A : Type 0} (f : A → A) (k : ℕ) (s : A) → iterate f (suc k) s ≡ iterate f k (f s)
unfolding iterate
iterate_shift f zero s = refl
iterate_shift f (suc k) s = ap f (iterate_shift f k s)

keeps : (step obj : Float) → size_after step nan obj ≡ step
unfolding size_after lt
keeps step nan = refl
keeps step (inf s) = refl
keeps step (fin s m e) = refl

module _ (w : ℕ) (wuw wum : List Float) (on : List Bool) (windows : ℕ) (gv_mean gv_vari : Float) where
  abbrev pub first_turn : List Float → State
  first_turn par = state (next_step w wuw wum on windows gv_mean gv_vari (gradient w wuw par) step_init (mean_of on par) (vari_of on par) par) step_init (objective w wuw wum on windows gv_mean gv_vari par)

  first_is : (par : List Float) → turn w wuw wum on windows gv_mean gv_vari (state par step_init nan) ≡ first_turn par
  unfolding turn
  first_is par = let obj = objective w wuw wum on windows gv_mean gv_vari par in
      ap (λ (size : Float). state (next_step w wuw wum on windows gv_mean gv_vari (gradient w wuw par) size (mean_of on par) (vari_of on par) par) size obj) (keeps step_init obj)

  pub parmgen_literal : (par : List Float) → parmgen w wuw wum on windows gv_mean gv_vari par
      ≡ cond (eqb (count on) 0) par (values_of (iterate (turn w wuw wum on windows gv_mean gv_vari) 4 (first_turn (conv_gv on gv_mean par))))
  unfolding parmgen
  parmgen_literal par =
      let f : State → State = turn w wuw wum on windows gv_mean gv_vari in
      let q : List Float = conv_gv on gv_mean par in
      ap (λ (s : State). cond (eqb (count on) 0) par (values_of s)) (iterate_shift f 4 (state q step_init nan) ∙ ap (λ (s : State). iterate f 4 s) (first_is q))
