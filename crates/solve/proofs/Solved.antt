-- Laws of regions whose equations are solved, and of the door.
use mathlib.Core.Path.{◌≡◌, sym, ap, ◌∙◌}
use mathlib.Core.Bool.{Bool, true, false, not}
use mathlib.Core.List.{List}
use Prim.Native.Nat.{ℕ, ◌*◌, ◌<◌, ◌≤◌}
use native.Mathlib.Omega.{arith}
use borrow.Author.Tests.{leb-true, lt-ltb, le-ltb, not-true, not-false}
use lib.Dec.{leb}
use lib.ListN.{length}
use lib.Ieee.{Float}
use Rattle.lists.proofs.Fills.{fill_done}
use Rattle.region.specs.Region.{Region, size_of, places_of, region_in, Sized, region_of}
use Rattle.region.specs.Inner.Passes.{Spaced, Across}
use Rattle.region.specs.declared.Layout.{Layout}
use Rattle.region.specs.declared.Places.{Places}
use Rattle.region.proofs.Flats.{read-sized, lists_are}
use Rattle.region.proofs.Lanes.{region-long}
use Rattle.region.proofs.Across.{across-then}
use Rattle.solve.specs.Solve.{factor, forward, solution}
use Rattle.solve.specs.Promise.{solved_in, SolveSays}
use Rattle.solve.specs.Inner.Standing.{stood_in, backed_in, Forth, Back}
use Rattle.solve.proofs.Factors.{factor-length, solution-length}

-- ---- one region

module _ (g : Layout) where
  -- the lists of a region keep their lengths
  pub solved-sized : (r : Region) → Sized g r → Sized g (solved_in g r)
  solved-sized r k = record {
    means = k.means;
    ivars = k.ivars;
    matrix = k.matrix;
    side = k.side;
    factors = factor-length g.w r.matrix g.n;
    values = solution-length g.w r.matrix r.side ∙ k.side;
  }

  -- all rows are done, and then all values are put backward
  pub solved : (r : Region) → Sized g r → backed_in g.w 0 (stood_in g.w g.n r) ≡ solved_in g r
  unfolding solution
  solved r k =
      rw (
        k.side,
        fill_done (factor g.w r.matrix g.n) r.factors (g.n * g.w) (omega (arith, k.factors)),
        fill_done (forward g.w (factor g.w r.matrix g.n) r.side g.n) r.values g.n (omega (arith, k.values)),
      )

-- ---- those of several

module _ (g : Layout) (lanes : ℕ) (work : List Float) where
  -- rows without a diagonal, and a list that is too short
  pub solve_rowless : g.w < 1 → SolveSays g lanes work work
  solve_rowless h = record { space = rw (le-ltb 0 g.w (omega arith)) }

  module _ (pos : 0 < g.w) (t : Bool) (test : t ≡ leb (lanes * size_of g) (length work)) where
    pub solve_short : not t ≡ true → SolveSays g lanes work work
    solve_short s = record { space = rw (lt-ltb 0 g.w pos, ← test, not-true t s) }

    module _ (s : not t ≡ false) (p : Places) (n w : ℕ) (p-is : p ≡ places_of g) (n-is : n ≡ g.n) (w-is : w ≡ g.w) where
      fit : lanes * size_of g ≤ length work
      fit = leb-true (lanes * size_of g) (length work) (sym test ∙ not-false t s)

      -- the passes have gone over all of them
      pub solve_all : (a b : List Float) → Across (λ l. Forth p n w n) p.size lanes work a → Across (λ l. Back p n w 0) p.size lanes a b → SolveSays g lanes work b
      solve_all a b forth back =
          let both : Across (λ l x y. region_in g y ≡ solved_in g (region_in g x)) (size_of g) lanes work b =
          across-then (rw (p-is, n-is, w-is) at forth) (rw (p-is, n-is, w-is) at back)
          (λ l h x y. y ∙ ap (backed_in g.w 0) x ∙ solved g (region_in g (region_of (size_of g) l work)) (read-sized g _ (region-long (size_of g) lanes l work h fit))) in
          record { space = rw (lt-ltb 0 g.w pos, ← test, not-false t s) (lists_are g lanes (λ l. solved_in g) work fit b both) }
