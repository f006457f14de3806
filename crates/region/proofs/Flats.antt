-- Laws of a region and its six lists, and of the regions of several components.
use mathlib.Core.Path.{◌≡◌, refl, sym, ap, ◌∙◌}
use mathlib.Core.List.{List, ◌++◌}
use Prim.Native.Nat.{ℕ, ◌+◌, ◌*◌, ◌<◌, ◌≤◌}
use native.Mathlib.Omega.{arith}
use lib.ListN.{length, drop, length-append, length-drop}
use lib.Seq.{drop_at}
use lib.Ieee.{Float}
use Rattle.lists.specs.Build.{rows}
use Rattle.lists.specs.Parts.{part}
use Rattle.lists.proofs.Joins.{part-joined, part-last, part-first, part-behind, rows_same, rows-length, rows-part, rows_cut}
use Rattle.lists.proofs.Regions.{cut-length}
use Rattle.region.specs.Region.{Region, ivars_at, rows_at, right_at, factors_at, values_at, size_of, region_in, flat, Sized, region_of, each_region}
use Rattle.region.specs.Inner.Passes.{Across}
use Rattle.region.specs.declared.Layout.{Layout}
use Rattle.region.proofs.Lanes.{region-long}

-- ---- one region

module _ (g : Layout) where
  pub read-sized : (m : List Float) → length m ≡ size_of g → Sized g (region_in g m)
  read-sized m h = record {
    means = cut-length 0 (ivars_at g) m (omega arith);
    ivars = cut-length (ivars_at g) (ivars_at g) m (omega arith);
    matrix = cut-length (rows_at g) (g.n * g.w) m (omega arith);
    side = cut-length (right_at g) g.n m (omega arith);
    factors = cut-length (factors_at g) (g.n * g.w) m (omega arith);
    values = cut-length (values_at g) g.n m (omega arith);
  }

  -- a region is its six lists
  pub flat-read : (m : List Float) → length m ≡ size_of g → flat (region_in g m) ≡ m
  flat-read m h =
      rw (
        part-last (values_at g) g.n m (omega arith),
        part-joined (factors_at g) (g.n * g.w) (values_at g) m refl,
        part-joined (right_at g) g.n (factors_at g) m refl,
        part-joined (rows_at g) (g.n * g.w) (right_at g) m refl,
        part-joined (ivars_at g) (ivars_at g) (rows_at g) m refl,
      )
      (part-joined 0 (ivars_at g) (ivars_at g) m (omega arith))

  pub flat-length : (r : Region) → Sized g r → length (flat r) ≡ size_of g
  flat-length r k = simp length-append (omega (arith, k.means, k.ivars, k.matrix, k.side, k.factors, k.values))

  -- and its lists are those that it was made of
  pub read-flat : (r : Region) → Sized g r → region_in g (flat r) ≡ r
  read-flat r k =
      let a : ℕ = ivars_at g in
      let b : ℕ = g.n * g.w in
      let Y : List Float = r.values in
      let F : List Float = r.factors ++ Y in
      let S : List Float = r.side ++ F in
      let M : List Float = r.matrix ++ S in
      let I : List Float = r.ivars ++ M in
      let to-i : (o i c : ℕ) → o ≡ a + i → part o c (flat r) ≡ part i c I = λ o i c e. part-behind r.means I a o i c k.means e in
      let to-m : (o i c : ℕ) → o ≡ a + a + i → part o c (flat r) ≡ part i c M = λ o i c e. to-i o (a + i) c (omega arith) ∙ part-behind r.ivars M a (a + i) i c k.ivars refl in
      let to-s : (o i c : ℕ) → o ≡ a + a + b + i → part o c (flat r) ≡ part i c S = λ o i c e. to-m o (b + i) c (omega arith) ∙ part-behind r.matrix S b (b + i) i c k.matrix refl in
      let to-f : (o i c : ℕ) → o ≡ a + a + b + g.n + i → part o c (flat r) ≡ part i c F = λ o i c e. to-s o (g.n + i) c (omega arith) ∙ part-behind r.side F g.n (g.n + i) i c k.side refl in
      let to-v : (o i c : ℕ) → o ≡ a + a + b + g.n + b + i → part o c (flat r) ≡ part i c Y = λ o i c e. to-f o (b + i) c (omega arith) ∙ part-behind r.factors Y b (b + i) i c k.factors refl in
      rw (
        part-first r.means I a k.means,
        to-i a 0 a (omega arith),
        part-first r.ivars M a k.ivars,
        to-m (rows_at g) 0 b (omega arith),
        part-first r.matrix S b k.matrix,
        to-s (right_at g) 0 g.n (omega arith),
        part-first r.side F g.n k.side,
        to-f (factors_at g) 0 b (omega arith),
        part-first r.factors Y b k.factors,
        to-v (values_at g) 0 g.n (omega arith),
        part-last 0 g.n Y (omega (arith, k.values)),
      )

-- ---- several

module _ (g : Layout) (lanes : ℕ) (f : ℕ → Region → Region) (work : List Float) (fit : lanes * size_of g ≤ length work) where
  abbrev before : ℕ → Region
  before l = region_in g (region_of (size_of g) l work)

  -- each region is so, and what lies behind them is as it was
  pub across_is : (work' : List Float) → Across (λ l b e. e ≡ flat (f l (region_in g b))) (size_of g) lanes work work' → work' ≡ each_region g lanes f work
  unfolding each_region
  across_is work' k =
      sym (rows_cut (size_of g) lanes work')
      ∙ rw k.behind
      (ap (λ (x : List Float). x ++ drop (lanes * size_of g) work) (rows_same (λ l. region_of (size_of g) l work') (λ l. flat (f l (before l))) lanes k.each))

  -- each region's six lists are so
  pub lists_are : (work' : List Float) → Across (λ l b e. region_in g e ≡ f l (region_in g b)) (size_of g) lanes work work' → work' ≡ each_region g lanes f work
  lists_are work' k =
      across_is work' (record {
        long = k.long;
        each = λ l h. sym (flat-read g (region_of (size_of g) l work') (region-long (size_of g) lanes l work' h (omega (arith, k.long)))) ∙ ap flat (k.each l h);
        behind = k.behind;
      })

  module _ (sized : (l : ℕ) → l < lanes → Sized g (f l (before l))) where
    pub each-length : length (each_region g lanes f work) ≡ length work
    unfolding each_region
    each-length = simp (length-append, length-drop) (omega (arith, rows-length (λ l. flat (f l (before l))) (size_of g) lanes (λ l h. flat-length g (f l (before l)) (sized l h))))

    pub each-region : (l : ℕ) → l < lanes → region_in g (region_of (size_of g) l (each_region g lanes f work)) ≡ f l (before l)
    unfolding each_region
    each-region l h =
        ap (region_in g) (rows-part (λ l. flat (f l (before l))) (size_of g) lanes l (drop (lanes * size_of g) work) h (λ i b. flat-length g (f i (before i)) (sized i b)))
        ∙ read-flat g (f l (before l)) (sized l h)

    pub each-behind : drop (lanes * size_of g) (each_region g lanes f work) ≡ drop (lanes * size_of g) work
    unfolding each_region
    each-behind = drop_at (rows (λ l. flat (f l (before l))) lanes) (drop (lanes * size_of g) work) (lanes * size_of g) (rows-length (λ l. flat (f l (before l))) (size_of g) lanes (λ l h. flat-length g (f l (before l)) (sized l h)))

  -- a region within the list has all its floats
  pub before-sized : (l : ℕ) → l < lanes → Sized g (before l)
  before-sized l h = read-sized g (region_of (size_of g) l work) (region-long (size_of g) lanes l work h fit)
