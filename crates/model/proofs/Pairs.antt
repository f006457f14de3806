-- Laws of pairs and their sums.
use mathlib.Core.Path.{◌≡◌, refl, sym, ap, ◌∙◌}
use mathlib.Core.List.{List, [], ◌∷◌}
use mathlib.Core.Bool.{true, false}
use Prim.Native.Nat.{ℕ, zero, suc, ◌+◌, ◌<◌, ◌≤◌, min}
use native.Mathlib.Nat.{zero-min, min-zero, suc-min-suc}
use native.Mathlib.Omega.{arith}
use lib.ListN.{length, drop, get_or}
use lib.Ieee.{Float, nan, binary64, lt, add, div}
use Rattle.lists.specs.Build.{fold_from}
use Rattle.lists.proofs.Sums.{fold_more, fold_done}
use Rattle.floats.specs.Order.{abs_of}
use Rattle.model.specs.declared.mean_vari.MeanVari.{MeanVari}
use Rattle.floats.specs.Numbers.{nought, one}
use Rattle.model.specs.Pair.{pair, high_bound, low_bound, largest_ivar, ivar_of, plus, pairs_of, sum_of}

-- ---- the three cases of an inverse variance

module _ (v size : Float) (e : size ≡ abs_of v) where
  pub ivar-high : lt high_bound size ≡ true → nought ≡ ivar_of v
  unfolding ivar_of
  ivar-high h = rw (← e, h)

  pub ivar-low : lt high_bound size ≡ false → lt size low_bound ≡ true → largest_ivar ≡ ivar_of v
  unfolding ivar_of
  ivar-low h l = rw (← e, h, l)

  pub ivar-between : lt high_bound size ≡ false → lt size low_bound ≡ false → div binary64 one v ≡ ivar_of v
  unfolding ivar_of
  ivar-between h l = rw (← e, h, l)

-- ---- pairs of two lists

pub pairs-length : (ms vs : List Float) → length (pairs_of ms vs) ≡ min (length ms) (length vs)
unfolding pairs_of
pairs-length [] vs = sym (zero-min (length vs))
pairs-length (m ∷ ms) [] = sym (min-zero (suc (length ms)))
pairs-length (m ∷ ms) (v ∷ vs) = rw suc-min-suc (ap suc (pairs-length ms vs))

pub pairs-at : (ms vs : List Float) (i : ℕ) (z : MeanVari) → i < min (length ms) (length vs) → get_or (pairs_of ms vs) i z ≡ pair (get_or ms i nan) (get_or vs i nan)
unfolding pairs_of
pairs-at [] vs i z h = absurd (omega arith)
pairs-at (m ∷ ms) [] i z h = absurd (omega arith)
pairs-at (m ∷ ms) (v ∷ vs) zero z h = refl
pairs-at (m ∷ ms) (v ∷ vs) (suc i) z h = pairs-at ms vs i z (omega arith)

-- ---- their sum

-- a loop that sums has added i of them
module _ (ms vs : List Float) (end i : ℕ) (e : end ≡ min (length ms) (length vs)) (total : MeanVari) where
  pub sum-next : i < end → fold_from plus total (drop i (pairs_of ms vs)) ≡ sum_of ms vs → fold_from plus (plus total (pair (get_or ms i nan) (get_or vs i nan))) (drop (i + 1) (pairs_of ms vs)) ≡ sum_of ms vs
  sum-next h k =
      let z : MeanVari = pair nan nan in
      let p : get_or (pairs_of ms vs) i z ≡ pair (get_or ms i nan) (get_or vs i nan) = pairs-at ms vs i z (omega arith) in
      let l : i < length (pairs_of ms vs) = omega (arith, pairs-length ms vs) in
      ap (λ (q : MeanVari). fold_from plus (plus total q) (drop (i + 1) (pairs_of ms vs))) (sym p) ∙ fold_more plus total (pairs_of ms vs) i z l ∙ k

  pub sum_done : end ≤ i → fold_from plus total (drop i (pairs_of ms vs)) ≡ sum_of ms vs → total ≡ sum_of ms vs
  sum_done h k = sym (fold_done plus total (pairs_of ms vs) i (omega (arith, pairs-length ms vs))) ∙ k

-- where the lists are of one length: the means' own sum, and the variances'
folded_0 : (p : MeanVari) (ms vs : List Float) → length ms ≡ length vs → (fold_from plus p (pairs_of ms vs)).0 ≡ fold_from (add binary64) p.0 ms
unfolding fold_from pairs_of
folded_0 p [] vs h = refl
folded_0 p (m ∷ ms) [] h = absurd (omega arith)
folded_0 p (m ∷ ms) (v ∷ vs) h = folded_0 (plus p (pair m v)) ms vs (omega arith)

folded_1 : (p : MeanVari) (ms vs : List Float) → length ms ≡ length vs → (fold_from plus p (pairs_of ms vs)).1 ≡ fold_from (add binary64) p.1 vs
unfolding fold_from pairs_of
folded_1 p [] [] h = refl
folded_1 p [] (v ∷ vs) h = absurd (omega arith)
folded_1 p (m ∷ ms) [] h = absurd (omega arith)
folded_1 p (m ∷ ms) (v ∷ vs) h = folded_1 (plus p (pair m v)) ms vs (omega arith)

module _ (ms vs : List Float) (h : length ms ≡ length vs) where
  pub sum-means : (sum_of ms vs).0 ≡ fold_from (add binary64) nought ms
  unfolding sum_of
  sum-means = folded_0 (pair nought nought) ms vs h

  pub sum-varis : (sum_of ms vs).1 ≡ fold_from (add binary64) nought vs
  unfolding sum_of
  sum-varis = folded_1 (pair nought nought) ms vs h
