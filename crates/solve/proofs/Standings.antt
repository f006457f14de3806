-- Laws of a region whose equations are being solved: a row is done, a value is put backward.
use mathlib.Core.Path.{◌≡◌, refl, sym, ap, ◌∙◌}
use mathlib.Core.List.{List, [], ◌∷◌}
use Prim.Native.Nat.{ℕ, ◌+◌, ◌*◌, ◌<◌, ◌≤◌}
use native.Mathlib.Nat.{suc-mul, zero-mul}
use native.Mathlib.Numerals.{add-one}
use native.Mathlib.Omega.{arith}
use lib.ListN.{length, set, take, drop}
use lib.Seq.{sets, take-take, take_at}
use lib.Ieee.{Float, nan}
use Rattle.lists.specs.Build.{build}
use Rattle.lists.specs.Parts.{part}
use Rattle.lists.proofs.Fills.{build-length, fill-next}
use Rattle.lists.proofs.Stores.{sets-next}
use Rattle.lists.proofs.Regions.{cut-length}
use Rattle.lists.proofs.Rows.{row_fits}
use Rattle.region.specs.Rows.{elem, row}
use Rattle.region.specs.Region.{Region, region_at, region_of}
use Rattle.region.specs.Inner.Passes.{Spaced, replaced, Across}
use Rattle.region.specs.declared.Places.{Places}
use Rattle.region.proofs.Readings.{part_elem, part-part}
use Rattle.region.proofs.Lanes.{region-long}
use Rattle.region.proofs.Across.{across-none, across-then}
use Rattle.region.proofs.Stores.{factors-stored, values-stored}
use Rattle.solve.specs.Solve.{factor_at, factor, forward_at, forward, backward_at}
use Rattle.solve.specs.Inner.Standing.{stood_in, backed_in, row_done, value_back, Forth, Back}
use Rattle.solve.proofs.Factors.{factor-length, factor-next, forward-length, forward-next, forward-more, backward-next, backward-none}

-- ---- before the first row, and before the last value

pub stood_none : (w : ℕ) (r : Region) → r ≡ stood_in w 0 r
unfolding factor forward
stood_none w r = rw zero-mul

pub backed_none : (w n : ℕ) (r : Region) → length r.values ≡ n → r ≡ backed_in w n r
backed_none w n r e = ap (replaced r r.factors) (backward-none w r.factors r.values n e)

-- ---- a region m, and row t of it

module _ (p : Places) (n w t : ℕ) (m : List Float) {size : ℕ} (h : t < n) (s : Spaced p n w size) (r : Region) where
  -- it is r with the rows before t done
  module _ (lf : length r.factors ≡ n * w) (lv : length r.values ≡ n) (k : region_at p n w m ≡ stood_in w t r) where
    abbrev F : List Float
    F = factor w r.matrix t

    abbrev Y : List Float
    Y = forward w F r.side t

    abbrev new : List Float
    new = build (factor_at w (row w r.matrix t) F t) w

    abbrev x : Float
    x = forward_at w F (elem r.side t) Y t

    fit : t * w + w ≤ n * w
    fit = row_fits w t n h

    -- what is read
    read_so : row_done p w t m ≡ set (sets m (p.factors + t * w) new) (p.values + t) x
    read_so =
        let factors : part p.factors (t * w) m ≡ F = sym (take-take (t * w) (n * w) (drop p.factors m) (omega (arith, fit))) ∙ ap (λ (q : Region). take (t * w) q.factors) k ∙ take_at F _ (t * w) (factor-length w r.matrix t) in
        let values : part p.values t m ≡ Y = sym (take-take t n (drop p.values m) (omega arith)) ∙ ap (λ (q : Region). take t q.values) k ∙ take_at Y _ t (forward-length w F r.side t) in
        let matrix : part (p.rows + t * w) w m ≡ row w r.matrix t = sym (part-part (t * w) w p.rows (n * w) m fit) ∙ ap (λ (q : Region). row w q.matrix t) k in
        let side : elem m (p.right + t) ≡ elem r.side t = part_elem p.right n t m h ∙ ap (λ (q : Region). elem q.side t) k in
        rw (factors, values, matrix, side)

    -- and what is stored
    pub stood_next : region_at p n w (row_done p w t m) ≡ stood_in w (t + 1) r
    stood_next =
        let long : length new ≡ w = build-length _ w in
        let next : t * w + length new ≡ (t + 1) * w = rw (add-one, suc-mul, long) in
        ap (region_at p n w) read_so
        ∙ values-stored p n w (sets m (p.factors + t * w) new) s (p.values + t) (x ∷ []) t refl (omega arith)
        ∙ ap (λ (q : Region). replaced q q.factors (set q.values t x)) (factors-stored p n w m s (p.factors + t * w) new (t * w) refl (omega (arith, fit, long)) ∙ ap (λ (q : Region). replaced q (sets q.factors (t * w) new) q.values) k)
        ∙ rw (
          sets-next F new r.factors (t * w) ((t + 1) * w) (factor-length w r.matrix t) next (omega (arith, fit, long)),
          fill-next Y r.values t x nan (forward-length w F r.side t) (omega arith),
          factor-next w r.matrix t,
          forward-more w F new r.side (t + 1) t (omega (arith, factor-length w r.matrix t)) (omega arith),
          forward-next w F r.side t,
        )

  -- it is r with the values behind t put backward
  pub backed_next : length r.values ≡ n → region_at p n w m ≡ backed_in w (t + 1) r → region_at p n w (value_back p n w t m) ≡ backed_in w t r
  backed_next lv k =
      values-stored p n w m s (p.values + t) (_ ∷ []) t refl (omega arith)
      ∙ ap (λ (q : Region). replaced q q.factors (set q.values t (backward_at w q.factors (elem q.values t) (drop (t + 1) q.values) t))) k
      ∙ ap (replaced r r.factors) (backward-next w r.factors r.values _ t (omega arith) refl)

-- ---- each of several regions

module _ (p : Places) (n w size lanes : ℕ) (s : Spaced p n w size) (old : List Float) (room : lanes * size ≤ length old) where
  abbrev begun : ℕ → Region
  begun l = region_at p n w (region_of size l old)

  factors-long : (l : ℕ) → l < lanes → length (begun l).factors ≡ n * w
  factors-long l b = cut-length p.factors (n * w) (region_of size l old) (omega (arith, region-long size lanes l old b room))

  values-long : (l : ℕ) → l < lanes → length (begun l).values ≡ n
  values-long l b = cut-length p.values n (region_of size l old) (omega (arith, region-long size lanes l old b room))

  pub back_none : Across (λ l. Back p n w n) size lanes old old
  back_none = across-none (λ l b. backed_none w n (begun l) (values-long l b))

  module _ (t : ℕ) (work new : List Float) (h : t < n) where
    pub forth-next : Across (λ l. Forth p n w t) size lanes old work → Across (λ l b e. e ≡ row_done p w t b) size lanes work new → Across (λ l. Forth p n w (t + 1)) size lanes old new
    forth-next a b = across-then a b (λ l i x y. rw y (stood_next p n w t (region_of size l work) h s (begun l) (factors-long l i) (values-long l i) x))

    pub back-next : Across (λ l. Back p n w (t + 1)) size lanes old work → Across (λ l b e. e ≡ value_back p n w t b) size lanes work new → Across (λ l. Back p n w t) size lanes old new
    back-next a b = across-then a b (λ l i x y. rw y (backed_next p n w t (region_of size l work) h s (begun l) (values-long l i) x))
