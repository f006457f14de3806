-- Laws of the gradient, which is made row by row with the objective's first part.
use mathlib.Core.Path.{◌≡◌, refl, ap, ◌∙◌}
use mathlib.Core.List.{List}
use Prim.Native.Nat.{ℕ, ◌+◌, ◌-◌, ◌<◌, ◌≤◌}
use native.Mathlib.Nat.{mul-le-mul_left}
use native.Mathlib.Omega.{arith}
use lib.ListN.{length, set}
use lib.Seq.{sets}
use lib.Ieee.{Float, nan, binary64, add}
use Rattle.lists.specs.Build.{build, over}
use Rattle.lists.proofs.Fills.{build-length}
use Rattle.lists.proofs.Builds.{build-at}
use Rattle.lists.proofs.Orders.{over-step, over-same}
use Rattle.lists.proofs.Regions.{cut-length, stored_rule}
use Rattle.floats.specs.Numbers.{nought}
use Rattle.region.specs.Rows.{elem}
use Rattle.region.specs.Region.{Region, region_at}
use Rattle.region.specs.Inner.Passes.{Spaced, replaced}
use Rattle.region.specs.declared.Places.{Places}
use Rattle.region.proofs.Readings.{part_elem}
use Rattle.region.proofs.Stores.{factors-stored}
use Rattle.gv.specs.Gv.{plus_right, plus_left, beside, gradient_at, gradient, hmm_term, hmm_obj}
use Rattle.gv.specs.Inner.Turns.{Graded}

-- ---- a row: g has the diagonal and the entries before i to each side

pub beside-next : (w : ℕ) (wuw par : List Float) (t i : ℕ) (g y x z : Float) → 0 < i → g ≡ over (beside w wuw par t) (i - 1) y → x ≡ plus_right w wuw par t i g → z ≡ plus_left w wuw par t i x → z ≡ over (beside w wuw par t) (i + 1 - 1) y
beside-next w wuw par t i g y x z h e a b =
    let o : i + 1 - 1 ≡ i - 1 + 1 = omega arith in
    let q : i ≡ i - 1 + 1 = omega arith in
    (rw q at b) ∙ rw (rw q at a, e, o) (over-step (beside w wuw par t) (i - 1) y)

-- ---- the rows: m is a region d with t rows of its gradient, h the sum of their terms

pub graded-none : (p : Places) (n w : ℕ) (weight : Float) (d : List Float) → Graded p n w weight d d 0 nought
unfolding build over
graded-none p n w weight d = record { rows = refl; sum = refl }

-- row t's gradient x is stored, and its term is added
pub graded-next : (p : Places) (n w size : ℕ) → 0 < w → Spaced p n w size → (weight : Float) (d m m' : List Float) (t : ℕ) (h x h' : Float) → t < n → x ≡ gradient_at w (region_at p n w m).matrix (region_at p n w m).values t
    → m' ≡ set m (p.factors + t) x → h' ≡ add binary64 h (hmm_term weight (elem m (p.right + t)) x (elem m (p.values + t))) → Graded p n w weight d m t h → Graded p n w weight d m' (t + 1) h'
graded-next p n w size pos s weight d m m' t h x h' b ex em eh q =
    let r : Region = region_at p n w d in
    let f = gradient_at w r.matrix r.values in
    let vs = build f t in
    let long : length vs ≡ t = build-length f t in
    let k : region_at p n w m ≡ replaced r (sets r.factors 0 vs) r.values = ap (region_at p n w) q.rows ∙ factors-stored p n w d s p.factors vs 0 (omega arith) (omega (arith, mul-le-mul_left n pos)) in
    let x-is : x ≡ f t = ex ∙ ap (λ (l : Region). gradient_at w l.matrix l.values t) k in
    let y_is : elem m (p.right + t) ≡ elem r.side t = part_elem p.right n t m b ∙ ap (λ (l : Region). elem l.side t) k in
    let v-is : elem m (p.values + t) ≡ elem r.values t = part_elem p.values n t m b ∙ ap (λ (l : Region). elem l.values t) k in
    record {
      rows = em ∙ stored_rule f d m p.factors t x x-is q.rows;
      sum = eh ∙ rw (x-is, y_is, v-is, q.sum) (over-step (λ i a. add binary64 a (hmm_term weight (elem r.side i) (f i) (elem r.values i))) t nought);
    }

-- all rows are done
module _ (p : Places) (n w : ℕ) (d : List Float) (room : p.values + n ≤ length d) where
  abbrev r : Region
  r = region_at p n w d

  gradient_is : gradient w r.matrix r.values ≡ build (gradient_at w r.matrix r.values) n
  unfolding gradient
  gradient_is = rw (cut-length p.values n d room)

  pub graded-all : (weight v : Float) (m : List Float) (h : Float) → weight ≡ v → Graded p n w weight d m n h
      → (m ≡ sets d p.factors (gradient w r.matrix r.values)) × (h ≡ hmm_obj v r.side (gradient w r.matrix r.values) r.values)
  unfolding hmm_obj
  graded-all weight v m h e q =
      let D : List Float = gradient w r.matrix r.values in
      let term : (ℕ → Float) → ℕ → Float → Float = λ x t y. add binary64 y (hmm_term v (elem r.side t) (x t) (elem r.values t)) in
      let at_row : (t : ℕ) → t < n → elem D t ≡ gradient_at w r.matrix r.values t = λ t l. rw gradient_is (build-at (gradient_at w r.matrix r.values) n t nan l) in
      (q.rows ∙ rw gradient_is, q.sum ∙ rw (cut-length p.values n d room, e) (over-same (term (gradient_at w r.matrix r.values)) (term (elem D)) n nought (λ t z l. rw (at_row t l))))
