-- How long the lists of the global variance are.
use mathlib.Core.Path.{◌≡◌, refl, ◌∙◌}
use mathlib.Core.Bool.{Bool}
use mathlib.Core.List.{List}
use Prim.Native.Nat.{ℕ, zero, suc}
use lib.ListN.{length}
use lib.Ieee.{Float}
use Rattle.lists.proofs.Fills.{build-length}
use Rattle.gv.specs.Gv.{conv_gv, gradient}
use Rattle.gv.specs.Parmgen.{iterate, State, state, values_of, next_step, turn}

pub gradient-long : (w : ℕ) (wuw par : List Float) → length (gradient w wuw par) ≡ length par
unfolding gradient
gradient-long w wuw par = build-length _ (length par)

pub conv_long : (on : List Bool) (gv_mean : Float) (par : List Float) → length (conv_gv on gv_mean par) ≡ length par
unfolding conv_gv
conv_long on gv_mean par = build-length _ (length par)

module _ (w : ℕ) (wuw wum : List Float) (on : List Bool) (windows : ℕ) (gv_mean gv_vari : Float) where
  turn-long : (s : State) → length (values_of (turn w wuw wum on windows gv_mean gv_vari s)) ≡ length (values_of s)
  unfolding turn next_step
  turn-long (state par step prev) = build-length _ (length par)

  pub turns_long : (k : ℕ) (par : List Float) (step prev : Float) → length (values_of (iterate (turn w wuw wum on windows gv_mean gv_vari) k (state par step prev))) ≡ length par
  unfolding iterate
  turns_long zero par step prev = refl
  turns_long (suc k) par step prev = turn-long (iterate (turn w wuw wum on windows gv_mean gv_vari) k (state par step prev)) ∙ turns_long k par step prev
