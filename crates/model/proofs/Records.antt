-- Laws of records: a flat list is the pairs and the weight that it says, and nothing else.
use mathlib.Core.Path.{◌≡◌, refl, sym, ap, ◌∙◌}
use mathlib.Core.List.{List, [], ◌∷◌, ◌++◌, map}
use Prim.Native.Nat.{ℕ, zero, suc, ◌+◌, ◌-◌, ◌*◌, ◌/◌, ◌%◌, ◌<◌, ◌≤◌}
use native.Mathlib.Omega.{arith}
use Rattle.std.proofs.Common.{Some, None}
use lib.ListN.{length, take, drop, get_or, length-append, length-drop, length-map, take-append-drop, drop_of_length-le}
use lib.Seq.{drop-cons, drop-drop, length-take-le, take_at, drop_at, get_or-take, get_or-drop}
use lib.Ieee.{Float, nan}
use Rattle.model.specs.declared.voice.model.Weight.{Weight}
use Rattle.model.specs.declared.voice.model.Weight.TheVariants.{Given, Absent}
use Rattle.model.specs.declared.mean_vari.MeanVari.{MeanVari}
use Rattle.model.specs.Pair.{pair, pairs_of}
use Rattle.model.specs.Record.{Parameter, means_of, varis_of, rest_of, first, from_linear, weights, to_linear, pair_at}
use Rattle.model.proofs.Pairs.{pairs-length, pairs-at}

-- ---- the three parts of a flat record

module _ (lin : List Float) where
  pub means-length : length (means_of lin) ≡ length lin / 2
  means-length = length-take-le (length lin / 2) lin (omega arith)

  pub varis-length : length (varis_of lin) ≡ length lin / 2
  varis-length = length-take-le (length lin / 2) (drop (length lin / 2) lin) (rw length-drop (omega arith))

  pub halves : length (means_of lin) ≡ length (varis_of lin)
  halves = means-length ∙ sym varis-length

  pub rest-length : length (rest_of lin) ≡ length lin % 2
  rest-length = rw length-drop (omega arith)

  pub parts_join : means_of lin ++ (varis_of lin ++ rest_of lin) ≡ lin
  parts_join =
      let n = length lin / 2 in
      let t : n + n ≡ 2 * n = omega arith in
      let d : drop n (drop n lin) ≡ rest_of lin = drop-drop n n lin ∙ rw t in
      ap (λ (l : List Float). take n lin ++ l) (ap (λ (l : List Float). take n (drop n lin) ++ l) (sym d) ∙ take-append-drop n (drop n lin)) ∙ take-append-drop n lin

-- ---- pairs, and the lists that they are made of

pairs-means : (ms vs : List Float) → length ms ≡ length vs → map (λ (q : MeanVari). q.0) (pairs_of ms vs) ≡ ms
unfolding pairs_of
pairs-means [] vs h = refl
pairs-means (m ∷ ms) [] h = absurd (omega arith)
pairs-means (m ∷ ms) (v ∷ vs) h = ap (λ (l : List Float). m ∷ l) (pairs-means ms vs (omega arith))

pub pairs-varis : (ms vs : List Float) → length ms ≡ length vs → map (λ (q : MeanVari). q.1) (pairs_of ms vs) ≡ vs
unfolding pairs_of
pairs-varis [] [] h = refl
pairs-varis [] (v ∷ vs) h = absurd (omega arith)
pairs-varis (m ∷ ms) [] h = absurd (omega arith)
pairs-varis (m ∷ ms) (v ∷ vs) h = ap (λ (l : List Float). v ∷ l) (pairs-varis ms vs (omega arith))

-- the flat list of pairs that two lists of one length make
pub flat : (ms vs : List Float) (w : Weight) → length ms ≡ length vs → to_linear (record { parameters = pairs_of ms vs; msd = w }) ≡ ms ++ (vs ++ weights w)
unfolding to_linear
flat ms vs w h = rw (pairs-means ms vs h, pairs-varis ms vs h)

-- ---- a flat list is the record that it says

rest-weights : (s : List Float) → length s ≤ 1 → weights (first s) ≡ s
rest-weights [] h = refl
rest-weights (x ∷ []) h = refl
rest-weights (x ∷ y ∷ s) h = absurd (omega arith)

pub linear_back : (lin : List Float) → to_linear (from_linear lin) ≡ lin
unfolding from_linear
linear_back lin =
    flat (means_of lin) (varis_of lin) (first (rest_of lin)) (halves lin)
    ∙ ap (λ (s : List Float). means_of lin ++ (varis_of lin ++ s)) (rest-weights (rest_of lin) (omega (arith, rest-length lin)))
    ∙ parts_join lin

-- ---- and a record is the flat list's

pairs_again : (ps : List MeanVari) → pairs_of (map (λ (q : MeanVari). q.0) ps) (map (λ (q : MeanVari). q.1) ps) ≡ ps
unfolding pairs_of
pairs_again [] = refl
pairs_again (p ∷ ps) = ap (λ (l : List MeanVari). p ∷ l) (pairs_again ps)

weight_again : (w : Weight) → first (weights w) ≡ w
weight_again (Given x) = refl
weight_again Absent = refl

weights-few : (w : Weight) → length (weights w) ≤ 1
weights-few (Given x) = omega arith
weights-few Absent = omega arith

-- the parts of two lists of n and at most one number more
module _ (a b s : List Float) (n : ℕ) (e : length a ≡ n) (d : length b ≡ n) (h : length s ≤ 1) where
  half : length (a ++ (b ++ s)) / 2 ≡ n
  half = simp length-append (omega arith)

  split : means_of (a ++ (b ++ s)) ≡ a
  split = rw half (take_at a (b ++ s) n e)

  split-varis : varis_of (a ++ (b ++ s)) ≡ b
  split-varis = rw (half, drop_at a (b ++ s) n e) (take_at b s n d)

  split_rest : rest_of (a ++ (b ++ s)) ≡ s
  split_rest =
      let t : 2 * n ≡ n + n = omega arith in
      rw (half, t, ← drop-drop n n (a ++ (b ++ s)), drop_at a (b ++ s) n e) (drop_at b s n d)

pub linear_forth : (p : Parameter) → from_linear (to_linear p) ≡ p
unfolding from_linear to_linear
linear_forth p =
    let a = map (λ (q : MeanVari). q.0) p.parameters in
    let b = map (λ (q : MeanVari). q.1) p.parameters in
    let s = weights p.msd in
    let n = length p.parameters in
    let e : length a ≡ n = length-map p.parameters (λ (q : MeanVari). q.0) in
    let d : length b ≡ n = length-map p.parameters (λ (q : MeanVari). q.1) in
    let h = weights-few p.msd in
    rw (split a b s n e d h, split-varis a b s n e d h, split_rest a b s n e d h, pairs_again, weight_again)

-- ---- reading

found_at : (ps : List MeanVari) (n : ℕ) (z : MeanVari) → n < length ps → pair_at ps n ≡ Some (get_or ps n z)
unfolding pair_at
found_at [] n z h = absurd (omega arith)
found_at (p ∷ ps) zero z h = refl
found_at (p ∷ ps) (suc n) z h = found_at ps n z (omega arith)

missing_at : (ps : List MeanVari) (n : ℕ) → length ps ≤ n → pair_at ps n ≡ None
unfolding pair_at
missing_at [] n h = refl
missing_at (p ∷ ps) zero h = absurd (omega arith)
missing_at (p ∷ ps) (suc n) h = missing_at ps n (omega arith)

module _ (lin : List Float) where
  -- the pair of a number below the count
  pub pair_found : (n : ℕ) → n < length lin / 2 → pair_at (from_linear lin).parameters n ≡ Some (pair (get_or lin n nan) (get_or lin (length lin / 2 + n) nan))
  unfolding from_linear
  pair_found n h =
      let a = means_of lin in
      let b = varis_of lin in
      let z : MeanVari = pair nan nan in
      found_at (pairs_of a b) n z (omega (arith, pairs-length a b, means-length lin, varis-length lin))
      ∙ ap Some (pairs-at a b n z (omega (arith, means-length lin, varis-length lin)))
      ∙ rw (get_or-take (length lin / 2) lin n nan h, get_or-take (length lin / 2) (drop (length lin / 2) lin) n nan h, get_or-drop)

  pub pair_missing : (n : ℕ) → length lin / 2 ≤ n → pair_at (from_linear lin).parameters n ≡ None
  unfolding from_linear
  pair_missing n h = missing_at (pairs_of (means_of lin) (varis_of lin)) n (omega (arith, pairs-length (means_of lin) (varis_of lin), means-length lin, varis-length lin))

  -- a weight stands exactly in a list of odd length
  pub weight-given : length lin % 2 ≡ 1 → (from_linear lin).msd ≡ Given (get_or lin (length lin - 1) nan)
  unfolding from_linear
  weight-given h =
      let e : 2 * (length lin / 2) ≡ length lin - 1 = omega arith in
      rw (e, drop-cons lin (length lin - 1) nan (omega arith))

  pub weight-absent : length lin % 2 ≡ 0 → (from_linear lin).msd ≡ Absent
  unfolding from_linear
  weight-absent h =
      let e : length lin ≤ 2 * (length lin / 2) = omega arith in
      rw (drop_of_length-le lin e)
