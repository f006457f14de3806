-- Laws of a record scaled: its flat list is every number scaled.
use mathlib.Core.Path.{◌≡◌, refl, sym, ap, ◌∙◌}
use mathlib.Core.List.{List, [], ◌∷◌, ◌++◌, map, map-append}
use mathlib.Core.Bool.{Bool, true, false, cond}
use Prim.Native.Nat.{◌*◌, ◌≤◌}
use native.Mathlib.Nat.{mul_comm}
use native.Mathlib.Omega.{arith}
use lib.Dec.{eqb}
use lib.ListN.{length, length-map}
use lib.Ieee.{Float, nan, inf, fin, binary64, unlike, up, down, mul}
use Rattle.model.specs.declared.mean_vari.MeanVari.{MeanVari}
use Rattle.model.specs.Pair.{pair, weighted_by, pairs_of}
use Rattle.model.specs.Record.{means_of, varis_of, rest_of, first, from_linear, weights, to_linear}
use Rattle.model.specs.Mixing.{scaled_weight, scaled}
use Rattle.model.proofs.Records.{halves, rest-length, parts_join, flat}

-- ---- a product's factors may change places: there is one NaN

unlike_comm : (s t : Bool) → unlike s t ≡ unlike t s
unlike_comm true true = refl
unlike_comm true false = refl
unlike_comm false true = refl
unlike_comm false false = refl

times_comm : (x y : Float) → mul binary64 x y ≡ mul binary64 y x
unfolding mul
times_comm nan nan = refl
times_comm nan (inf t) = refl
times_comm nan (fin t n d) = refl
times_comm (inf s) nan = refl
times_comm (inf s) (inf t) = ap inf (unlike_comm s t)
times_comm (inf s) (fin t n d) = ap (λ (u : Bool). cond (eqb n 0) nan (inf u)) (unlike_comm s t)
times_comm (fin s m e) nan = refl
times_comm (fin s m e) (inf t) = ap (λ (u : Bool). cond (eqb m 0) nan (inf u)) (unlike_comm s t)
times_comm (fin s m e) (fin t n d) = rw (unlike_comm s t, mul_comm (m * up e) (n * up d), mul_comm (down e) (down d))

-- ---- every number scaled

module _ (w : Float) where
  abbrev pub times : Float → Float
  times x = mul binary64 x w

  scaled-pairs : (ms vs : List Float) → map (λ (q : MeanVari). weighted_by q w) (pairs_of ms vs) ≡ pairs_of (map times ms) (map times vs)
  unfolding pairs_of
  scaled-pairs [] vs = refl
  scaled-pairs (m ∷ ms) [] = refl
  scaled-pairs (m ∷ ms) (v ∷ vs) = ap (λ (l : List MeanVari). pair (times m) (times v) ∷ l) (scaled-pairs ms vs)

  scaled-rest : (s : List Float) → length s ≤ 1 → weights (scaled_weight w (first s)) ≡ map times s
  scaled-rest [] h = refl
  scaled-rest (x ∷ []) h = ap (λ (y : Float). y ∷ []) (times_comm w x)
  scaled-rest (x ∷ y ∷ s) h = absurd (omega arith)

  pub scaled-flat : (lin : List Float) → to_linear (scaled (from_linear lin) w) ≡ map times lin
  unfolding from_linear
  scaled-flat lin =
      let a = means_of lin in
      let b = varis_of lin in
      let s = rest_of lin in
      let h : length (map times a) ≡ length (map times b) = length-map a times ∙ halves lin ∙ sym (length-map b times) in
      ap (λ (ps : List MeanVari). to_linear (record { parameters = ps; msd = scaled_weight w (first s) })) (scaled-pairs a b)
      ∙ flat (map times a) (map times b) (scaled_weight w (first s)) h
      ∙ ap (λ (l : List Float). map times a ++ (map times b ++ l)) (scaled-rest s (omega (arith, rest-length lin)))
      ∙ sym (map-append times a (b ++ s) ∙ ap (λ (l : List Float). map times a ++ l) (map-append times b s))
      ∙ ap (map times) (parts_join lin)
