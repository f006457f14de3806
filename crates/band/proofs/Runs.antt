-- Laws of loops that add to one number a row, and of two such loops in one.
use mathlib.Core.Path.{◌≡◌, refl, sym, ap, ◌∙◌}
use mathlib.Core.List.{List}
use mathlib.Core.Logic.{⊎_elim, ◌≢◌}
use Prim.Native.Nat.{ℕ, zero, suc, ◌+◌, ◌*◌, ◌<◌, ◌≤◌}
use native.Mathlib.Omega.{arith}
use lib.ListN.{length, set, length-set}
use lib.Seq.{get_or-set_same, get_or-set_other, set_comm}
use lib.Ieee.{Float, nan, binary64, add, mul}
use Rattle.lists.specs.Build.{over}
use Rattle.lists.proofs.Numbers.{le_or_lt}
use Rattle.lists.proofs.Rows.{row_fits}
use Rattle.lists.proofs.Orders.{over-step}
use Rattle.region.specs.Rows.{elem}

-- ---- x t is added to the number of row t, which lies at Q t, for the rows from one to another

module _ (Q : ℕ → ℕ) (from : ℕ) (x : ℕ → Float) (d : List Float) where
  pub record Summed (to : ℕ) (m : List Float) : Type 0 where
    pub long : length m ≡ length d
    pub on : (t : ℕ) → from ≤ t → t < to → elem m (Q t) ≡ add binary64 (elem d (Q t)) (x t)
    pub off : (i : ℕ) → ((t : ℕ) → from ≤ t → t < to → i ≢ Q t) → elem m i ≡ elem d i

  pub summed-none : (to : ℕ) → to ≤ from → Summed to d
  summed-none to h = record { long = refl; on = λ t a b. absurd (omega arith); off = λ i o. refl }

  -- rows have numbers of their own
  module _ (apart : (s t : ℕ) → s < t → Q t ≢ Q s) where
    summed-next : (t : ℕ) (m : List Float) → from ≤ t → Q t < length d → Summed t m → Summed (suc t) (set m (Q t) (add binary64 (elem m (Q t)) (x t)))
    summed-next t m h b k =
        let old : elem m (Q t) ≡ elem d (Q t) = k.off (Q t) (λ s a e. apart s t e) in
        let v : Float = add binary64 (elem m (Q t)) (x t) in
        record {
          long = length-set m (Q t) v ∙ k.long;
          on = λ s a l. ⊎_elim
              (λ (g : t ≤ s). let z : s ≡ t = omega arith in rw z (get_or-set_same m (Q t) v nan (omega (arith, k.long)) ∙ rw old))
              (λ (g : s < t). get_or-set_other m (Q t) (Q s) v nan (λ e. apart s t g (sym e)) ∙ k.on s a g)
              (le_or_lt t s);
          off = λ i o. get_or-set_other m (Q t) i v nan (o t h (omega arith)) ∙ k.off i (λ s a l. o s a (omega arith));
        }

    -- so many steps
    pub summed-run : (step : ℕ → List Float → List Float) (count : ℕ) → ((t : ℕ) → t < count → Q (from + t) < length d)
        → ((t : ℕ) (m : List Float) → t < count → Summed (from + t) m → step t m ≡ set m (Q (from + t)) (add binary64 (elem m (Q (from + t))) (x (from + t)))) → Summed (from + count) (over step count d)
    unfolding over
    summed-run step zero b h = summed-none (from + 0) (omega arith)
    summed-run step (suc k) b h =
        let before = summed-run step k (λ t l. b t (omega arith)) (λ t m l. h t m (omega arith)) in
        let e : from + suc k ≡ suc (from + k) = omega arith in
        rw (e, h k (over step k d) (omega arith) before) (summed-next (from + k) (over step k d) (omega arith) (b k (omega arith)) before)

-- ---- two passes in one

-- steps that may change places are two runs one after the other
module _ {A : Type 0} (f g : ℕ → A → A) where
  later : (n t : ℕ) (y : A) → ((s : ℕ) (z : A) → s < n → f t (g s z) ≡ g s (f t z)) → f t (over g n y) ≡ over g n (f t y)
  unfolding over
  later zero t y h = refl
  later (suc n) t y h = h n (over g n y) (omega arith) ∙ ap (g n) (later n t y (λ s z l. h s z (omega arith)))

  pub fused : (n : ℕ) (y : A) → ((s t : ℕ) (z : A) → s < t → t < n → f t (g s z) ≡ g s (f t z)) → over (λ t z. g t (f t z)) n y ≡ over g n (over f n y)
  unfolding over
  fused zero y h = refl
  fused (suc n) y h = ap (λ (z : A). g n (f n z)) (fused n y (λ s t z a b. h s t z a (omega arith))) ∙ ap (g n) (later n n (over f n y) (λ s z l. h s n z l (omega arith)))

-- (c u) e is added to the t-th number of a run, whose numbers lie `step` apart; u is the t-th from another place on
abbrev pub scaled : ℕ → ℕ → ℕ → Float → Float → ℕ → List Float → List Float
scaled at step u c e t m = set m (at + t * step) (add binary64 (elem m (at + t * step)) (mul binary64 (mul binary64 c (elem m (u + t))) e))

-- and (c u) f to the number that lies `gap` behind it
abbrev pub both : ℕ → ℕ → ℕ → ℕ → Float → Float → Float → ℕ → List Float → List Float
both at gap step u c e f t m = scaled (at + gap) step u c f t (scaled at step u c e t m)

-- one more turn of a loop over a run, and of one over two
module _ (at step u : ℕ) (c e : Float) (m₀ m : List Float) (t q : ℕ) (place : q ≡ at + t * step) where
  abbrev x : Float
  x = mul binary64 c (elem m (u + t))

  abbrev m₁ : List Float
  m₁ = set m q (add binary64 (elem m q) (mul binary64 x e))

  pub scaled-next : m ≡ over (scaled at step u c e) t m₀ → m₁ ≡ over (scaled at step u c e) (t + 1) m₀
  scaled-next k = rw place (ap (scaled at step u c e t) k ∙ over-step (scaled at step u c e) t m₀)

  pub both-next : (gap : ℕ) (f : Float) → u + t < at → m ≡ over (both at gap step u c e f) t m₀ → set m₁ (q + gap) (add binary64 (elem m₁ (q + gap)) (mul binary64 x f)) ≡ over (both at gap step u c e f) (t + 1) m₀
  both-next gap f h k =
      let old : elem m₁ (u + t) ≡ elem m (u + t) = get_or-set_other m q (u + t) _ nan (λ z. omega arith) in
      let far : at + t * step + gap ≡ at + gap + t * step = omega arith in
      ap (λ (v : Float). set m₁ (q + gap) (add binary64 (elem m₁ (q + gap)) (mul binary64 (mul binary64 c v) f))) (sym old)
      ∙ rw (place, far) (ap (both at gap step u c e f t) k ∙ over-step (both at gap step u c e f) t m₀)

-- a run and one that lies less than a step behind it
module _ (at gap step u count : ℕ) (c d e : Float) (some : 0 < gap) (near : gap < step) (early : u + count ≤ at) where
  swapped : (s t : ℕ) (m : List Float) → s < t → t < count → scaled at step u c d t (scaled (at + gap) step u c e s m) ≡ scaled (at + gap) step u c e s (scaled at step u c d t m)
  swapped s t m l b =
      let p : ℕ = at + t * step in
      let q : ℕ = at + gap + s * step in
      let pq : p ≢ q = λ z. omega (arith, row_fits step s t l) in
      let up : u + t ≢ q = λ z. omega arith in
      let uq : u + s ≢ p = λ z. omega arith in
      rw (get_or-set_other m q p _ nan pq, get_or-set_other m q (u + t) _ nan up, get_or-set_other m p q _ nan (λ z. pq (sym z)), get_or-set_other m p (u + s) _ nan uq) (set_comm m q p _ _ (λ z. pq (sym z)))

  pub fused-run : (m : List Float) → over (both at gap step u c d e) count m ≡ over (scaled (at + gap) step u c e) count (over (scaled at step u c d) count m)
  fused-run m = fused (scaled at step u c d) (scaled (at + gap) step u c e) count m (λ s t z l b. swapped s t z l b)
