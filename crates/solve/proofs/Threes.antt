-- Laws of rows of width 3, which are factored, put forward and backward without a loop.
use mathlib.Core.Path.{◌≡◌, sym, ap, ◌∙◌}
use mathlib.Core.List.{List}
use Prim.Native.Nat.{ℕ, suc, ◌+◌, ◌-◌, ◌*◌, ◌<◌, ◌≤◌, min}
use native.Mathlib.Omega.{arith}
use lib.ListN.{length, set, drop, length-drop}
use lib.Seq.{sets, get_or-drop}
use lib.Ieee.{Float, nan, binary64, sub, mul, div}
use Rattle.lists.specs.Build.{build}
use Rattle.lists.specs.Parts.{part}
use Rattle.lists.proofs.Regions.{cut-length}
use Rattle.region.specs.Rows.{elem, entry}
use Rattle.region.specs.Inner.Passes.{Spaced}
use Rattle.region.specs.declared.Places.{Places}
use Rattle.region.proofs.Readings.{part_elem}
use Rattle.solve.specs.Sums.{less}
use Rattle.solve.specs.Solve.{reduced, factor_term, factor_at, forward_term, forward_at, backward_term, backward_at}
use Rattle.solve.specs.Inner.Standing.{row_done, value_back}
use Rattle.solve.specs.Inner.Three.{pivot_three, second_three, forward_three}

-- number j of a part of count from place o on, as it is read at place x of the list
read : (m : List Float) (o count x j : ℕ) → (j < count) × (x ≡ o + j) → elem m x ≡ elem (part o count m) j
read m o count x j h = ap (elem m) h.1 ∙ part_elem o count j m h.0

-- ---- row t + 2 of the factors and the value at t + 2, from the two rows and values before

module _ (p : Places) (m : List Float) (t : ℕ) where
  abbrev a : ℕ
  a = p.rows + t * 3 + 6

  abbrev f : ℕ
  f = p.factors + t * 3

  abbrev v : ℕ
  v = p.values + t

  abbrev A : List Float
  A = part (p.rows + (t + 2) * 3) 3 m

  abbrev F : List Float
  F = part p.factors ((t + 2) * 3) m

  abbrev Y : List Float
  Y = part p.values (t + 2) m

  -- entry i of the row that is k before row t + 2
  before : (x k i : ℕ) → (0 < k) × (k ≤ 2) × (i < 3) × (x ≡ p.factors + ((t + 2 - k) * 3 + i)) → elem m x ≡ entry 3 F (t + 2 - k) i
  before x k i h = read m p.factors ((t + 2) * 3) x ((t + 2 - k) * 3 + i) (omega arith)

  q₀ : elem m (f + 3) ≡ entry 3 F (t + 2 - 1) 0
  q₀ = before (f + 3) 1 0 (omega arith)

  q₁ : elem m (f + 4) ≡ entry 3 F (t + 2 - 1) 1
  q₁ = before (f + 4) 1 1 (omega arith)

  q₂ : elem m (f + 5) ≡ entry 3 F (t + 2 - 1) 2
  q₂ = before (f + 5) 1 2 (omega arith)

  r₀ : elem m f ≡ entry 3 F (t + 2 - 2) 0
  r₀ = before f 2 0 (omega arith)

  r₂ : elem m (f + 2) ≡ entry 3 F (t + 2 - 2) 2
  r₂ = before (f + 2) 2 2 (omega arith)

  pivot_is : pivot_three m a f ≡ reduced 3 (elem A 0) F (t + 2) 0
  unfolding less
  pivot_is = let o : 2 ≡ min 2 (t + 2) = omega arith in
      rw (read m (p.rows + (t + 2) * 3) 3 a 0 (omega arith), q₁, q₀, r₂, r₀) (ap (less (elem A 0) (factor_term 3 F (t + 2) 0)) o)

  second_is : second_three m a f ≡ reduced 3 (elem A 1) F (t + 2) 1
  unfolding less
  second_is = let o : 1 ≡ min 1 (t + 2) = omega arith in
      rw (read m (p.rows + (t + 2) * 3) 3 (a + 1) 1 (omega arith), q₁, q₂, q₀) (ap (less (elem A 1) (factor_term 3 F (t + 2) 1)) o)

  third_is : elem m (a + 2) ≡ reduced 3 (elem A 2) F (t + 2) 2
  unfolding less
  third_is = let o : 0 ≡ min 0 (t + 2) = omega arith in
      read m (p.rows + (t + 2) * 3) 3 (a + 2) 2 (omega arith) ∙ ap (less (elem A 2) (factor_term 3 F (t + 2) 2)) o

  forward_is : forward_three m (p.right + t + 2) f v ≡ forward_at 3 F (elem m (p.right + (t + 2))) Y (t + 2)
  unfolding less
  forward_is =
      let o : 2 ≡ min 2 (t + 2) = omega arith in
      let x : p.right + t + 2 ≡ p.right + (t + 2) = omega arith in
      rw (x, q₁, r₂, read m p.values (t + 2) (v + 1) (t + 2 - 1) (omega arith), read m p.values (t + 2) v (t + 2 - 2) (omega arith))
      (ap (less (elem m (p.right + (t + 2))) (forward_term 3 F Y (t + 2))) o)

  module _ (d u g : Float) (d-is : d ≡ pivot_three m a f) (u-is : u ≡ second_three m a f) (g-is : g ≡ forward_three m (p.right + t + 2) f v) where
    abbrev stored : List Float
    stored = set (set (set m (f + 6) d) (f + 7) (div binary64 u d)) (f + 8) (div binary64 (elem m (a + 2)) d)

    factored : stored ≡ sets m (p.factors + (t + 2) * 3) (build (factor_at 3 A F (t + 2)) 3)
    unfolding build factor_at
    factored =
        let i₀ : f + 6 ≡ p.factors + (t + 2) * 3 = omega arith in
        let i₁ : f + 7 ≡ suc (p.factors + (t + 2) * 3) = omega arith in
        let i₂ : f + 8 ≡ suc (suc (p.factors + (t + 2) * 3)) = omega arith in
        rw (i₀, i₁, i₂, d-is, u-is, pivot_is, second_is, third_is)

    pub three-forth : set stored (v + 2) g ≡ row_done p 3 (t + 2) m
    three-forth = let i : v + 2 ≡ p.values + (t + 2) = omega arith in rw (i, factored, g-is, forward_is)

-- ---- the value at t, from the two behind it

module _ (p : Places) (n : ℕ) (m : List Float) (t : ℕ) where
  abbrev e : ℕ
  e = p.factors + t * 3

  abbrev y : ℕ
  y = p.values + t

  abbrev X : Float
  X = sub binary64 (sub binary64 (div binary64 (elem m y) (elem m e)) (mul binary64 (elem m (e + 1)) (elem m (y + 1)))) (mul binary64 (elem m (e + 2)) (elem m (y + 2)))

  abbrev P : List Float
  P = part p.values n m

  abbrev C : List Float
  C = drop (t + 1) P

  abbrev L : List Float
  L = part p.factors (n * 3) m

  value_is : (x j : ℕ) → (t + 1 + j < n) × (x ≡ p.values + (t + 1 + j)) → elem m x ≡ elem C j
  value_is x j h = read m p.values n x (t + 1 + j) h ∙ sym (get_or-drop (t + 1) P j nan)

  pub three_back : t + 2 < n → Spaced p n 3 (length m) → set m y X ≡ value_back p n 3 t m
  unfolding less
  three_back h s =
      let long : length C ≡ n - (t + 1) = simp length-drop (omega (arith, cut-length p.values n m s.room)) in
      let o : min 2 (length C) ≡ 2 = omega arith in
      let is : X ≡ backward_at 3 L (elem P t) C t =
      rw (
        read m p.values n y t (omega arith),
        read m p.factors (n * 3) e (t * 3 + 0) (omega arith),
        read m p.factors (n * 3) (e + 1) (t * 3 + 1) (omega arith),
        read m p.factors (n * 3) (e + 2) (t * 3 + 2) (omega arith),
        value_is (y + 1) 0 (omega arith),
        value_is (y + 2) 1 (omega arith),
      )
      (sym (ap (less (div binary64 (elem P t) (entry 3 L t 0)) (backward_term 3 L C t)) o)) in
      ap (set m y) is
