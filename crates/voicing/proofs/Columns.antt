-- Columns of a trajectory: what stands at each place after several are stored side by side.
use mathlib.Core.Path.{◌≡◌, refl, sym, ap, ◌∙◌}
use mathlib.Core.Logic.{◌≢◌, ⊎_elim}
use mathlib.Core.List.{List, [], ◌∷◌}
use Prim.Native.Nat.{ℕ, zero, suc, ◌+◌, ◌-◌, ◌*◌, ◌/◌, ◌%◌, ◌<◌, ◌≤◌}
use native.Mathlib.Nat.{suc-mul, zero-mul, div-add-mod', mul-zero, mod-eq_of_lt, add-mul-mod_self_right, div-lt_iff_lt-mul}
use native.Mathlib.Omega.{arith}
use borrow.Author.Tests.{le-leb, lt-leb, lt-ltb, le-ltb}
use lib.ListN.{length, get_or, set, drop, length-set}
use lib.Seq.{get_or-set_same, get_or-set_other}
use lib.Ieee.{Float, nan}
use Rattle.lists.specs.Totals.{total}
use Rattle.lists.specs.Build.{build}
use Rattle.lists.specs.Frames.{fill}
use Rattle.lists.proofs.Builds.{build_is}
use Rattle.lists.proofs.Numbers.{le_or_lt}
use Rattle.region.specs.Rows.{elem}
use Rattle.region.specs.Region.{size_of, values_at, region_of, region_in}
use Rattle.region.specs.declared.Layout.{Layout}
use Rattle.region.specs.declared.Group.{Group}
use Rattle.region.proofs.Readings.{part-part}
use Rattle.voicing.specs.Mask.{mask_in}
use Rattle.voicing.specs.Space.{filled_at}
use Rattle.voicing.specs.Inner.Fits.{Grouped}
use Rattle.voicing.specs.Inner.Lanes.{sets_by, sets_lanes}
use Rattle.voicing.proofs.Masks.{mask-long}
use Rattle.voicing.proofs.Fillings.{lanes_length, fill-length, fill-front}

-- ---- one column, from place q on

module _ {A : Type 0} (v : ℕ) where
  -- a place that is none of the column's
  column-other : (q : ℕ) (xs out : List A) (p : ℕ) (z : A) → ((i : ℕ) → p ≢ q + i * v) → get_or (sets_by v q xs out) p z ≡ get_or out p z
  unfolding sets_by
  column-other q [] out p z h = refl
  column-other q (x ∷ xs) out p z h =
      column-other (q + v) xs (set out q x) p z (λ i e. h (suc i) (omega (arith, e, suc-mul i v)))
      ∙ get_or-set_other out q p x z (λ e. h 0 (omega (arith, e, zero-mul v)))

  -- the place of item i
  column-same : (q : ℕ) (xs out : List A) (i : ℕ) (z : A) → 0 < v → i < length xs → q + i * v < length out → get_or (sets_by v q xs out) (q + i * v) z ≡ get_or xs i z
  unfolding sets_by
  column-same q [] out i z b h l = absurd (omega arith)
  column-same q (x ∷ xs) out zero z b h l =
      let e : q + 0 * v ≡ q = omega (arith, zero-mul v) in
      rw e (column-other (q + v) xs (set out q x) q z (λ i d. absurd (omega (arith, d))) ∙ get_or-set_same out q x z (omega arith))
  column-same q (x ∷ xs) out (suc i) z b h l =
      let e : q + suc i * v ≡ q + v + i * v = omega (arith, suc-mul i v) in
      rw e (column-same (q + v) xs (set out q x) i z b (omega arith) (rw length-set (omega arith)))

-- ---- several columns of n numbers side by side, from column c on, at place p

module _ (v n c p : ℕ) (xs : ℕ → List Float) (out : List Float) (long : length out ≡ n * v) (each : (l : ℕ) → length (xs l) ≡ n) (b : p < length out) where
  some : 0 < v
  some = ⊎_elim (λ (h : v ≤ 0). let z : v ≡ 0 = omega arith in let e : n * v ≡ 0 = rw (z, mul-zero) in absurd (omega arith)) (λ (h : 0 < v). h) (le_or_lt v 0)

  -- a place of another column
  lanes_other : (lanes : ℕ) → c + lanes ≤ v → ((l : ℕ) → l < lanes → p % v ≢ c + l) → elem (sets_lanes v c xs lanes out) p ≡ elem out p
  unfolding sets_lanes
  lanes_other zero f h = refl
  lanes_other (suc l) f h =
      column-other v (c + l) (xs l) (sets_lanes v c xs l out) p nan (λ i e. h l (omega arith) (rw e (add-mul-mod_self_right (c + l) i v ∙ mod-eq_of_lt (omega arith))))
      ∙ lanes_other l (omega arith) (λ j g. h j (omega arith))

  lanes_at : (lanes m : ℕ) → c + lanes ≤ v → m < lanes → p % v ≡ c + m → elem (sets_lanes v c xs lanes out) p ≡ elem (xs m) (p / v)
  unfolding sets_lanes
  lanes_at zero m f h e = absurd (omega arith)
  lanes_at (suc l) m f h e = ⊎_elim
      (λ (g : l ≤ m). let o : m ≡ l = omega arith in
      let d : c + l + p / v * v ≡ p = omega (arith, div-add-mod' p v) in
      let r : p / v < length (xs l) = rw (each l) ((div-lt_iff_lt-mul {k = v} {x = p} {y = n} some).1 (omega arith)) in
      rw o (ap (λ (j : ℕ). elem (sets_by v (c + l) (xs l) (sets_lanes v c xs l out)) j) (sym d)
      ∙ column-same v (c + l) (xs l) (sets_lanes v c xs l out) (p / v) nan some r (rw lanes_length (omega arith))))
      (λ (g : m < l).
      column-other v (c + l) (xs l) (sets_lanes v c xs l out) p nan (λ i o. let z : p % v ≡ c + l = rw o (add-mul-mod_self_right (c + l) i v ∙ mod-eq_of_lt (omega arith)) in absurd (omega arith))
      ∙ lanes_at l m (omega arith) g e)
      (le_or_lt l m)

-- the values of components, which their regions hold, are filled back
module _ (none : Float) (ds flags : List ℕ) (g : Layout) (c : Group) (work out : List Float) (fits : Grouped ds flags g c (length work)) (long : length out ≡ total ds * c.v) where
  abbrev column : ℕ → List Float
  column l = fill none (mask_in ds flags) (drop (values_at g + 0 + l * size_of g) work)

  column_is : (l : ℕ) → column l ≡ fill none (mask_in ds flags) (region_in g (region_of (size_of g) l work)).values
  column_is l =
      let e : values_at g + 0 + l * size_of g ≡ l * size_of g + values_at g = omega arith in
      rw (part-part (values_at g) g.n (l * size_of g) (size_of g) work (omega arith), e) (sym (fill-front none (mask_in ds flags) (drop (l * size_of g + values_at g) work) g.n (omega (arith, fits.voiced))))

  pub columns_filled : sets_lanes c.v c.first column c.lanes out ≡ build (filled_at none (mask_in ds flags) g c work out) (length out)
  columns_filled = build_is (filled_at none (mask_in ds flags) g c work out) (length out) _ nan (lanes_length c.v c.first column c.lanes out)
      (λ p b.
      let n : (l : ℕ) → length (column l) ≡ total ds = λ l. fill-length none (mask_in ds flags) _ ∙ mask-long ds flags in
      let m : ℕ = p % c.v in
      let other : ((l : ℕ) → l < c.lanes → m ≢ c.first + l) → elem (sets_lanes c.v c.first column c.lanes out) p ≡ elem out p = λ h. lanes_other c.v (total ds) c.first p column out long n b c.lanes fits.some h in
      ⊎_elim
      (λ (h : c.first ≤ m). ⊎_elim
      (λ (k : c.first + c.lanes ≤ m). rw (le-leb c.first m h, le-ltb m (c.first + c.lanes) k) (other (λ l g e. absurd (omega (arith, e)))))
      (λ (k : m < c.first + c.lanes). rw (le-leb c.first m h, lt-ltb m (c.first + c.lanes) k)
      (lanes_at c.v (total ds) c.first p column out long n b c.lanes (m - c.first) fits.some (omega arith) (omega arith) ∙ ap (λ (x : List Float). elem x (p / c.v)) (column_is (m - c.first))))
      (le_or_lt (c.first + c.lanes) m))
      (λ (h : m < c.first). rw (lt-leb c.first m h) (other (λ l g e. absurd (omega (arith, e)))))
      (le_or_lt c.first m))
