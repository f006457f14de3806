-- How far a component's equations are solved, said of its six lists, and what the passes of the solver do to a region.
use Rattle.std.specs.Prelude.{ℕ, ◌+◌, ◌*◌, ◌≡◌, List, ◌++◌, set, take, drop, Float}
use Rattle.std.proofs.lemmas.List.Edits.{sets}
use Rattle.lists.specs.Build.{build}
use Rattle.lists.specs.Parts.{part}
use Rattle.region.specs.Rows.{elem}
use Rattle.region.specs.Region.{Region, region_at}
use Rattle.region.specs.Inner.Passes.{replaced}
use Rattle.region.specs.declared.Places.{Places}
use Rattle.solve.specs.Solve.{factor_at, factor, forward_at, forward, backward_at, backward}

-- ---- the six lists, with rows of w numbers

-- the first t rows are factored, and as many values put forward; the rest is as it was
abbrev pub stood_in : ℕ → ℕ → Region → Region
stood_in w t r = let f = factor w r.matrix t in replaced r (f ++ drop (t * w) r.factors) (forward w f r.side t ++ drop t r.values)

-- the values from t on are put backward; those before it are as they were
abbrev pub backed_in : ℕ → ℕ → Region → Region
backed_in w t r = replaced r r.factors (take t r.values ++ backward w r.factors t (drop t r.values))

-- ---- a region m of the work space

-- row t is done: its factors are stored behind those of the rows before it, and its value behind theirs
abbrev pub row_done : Places → ℕ → ℕ → List Float → List Float
row_done p w t m = let f = part p.factors (t * w) m in
    set (sets m (p.factors + t * w) (build (factor_at w (part (p.rows + t * w) w m) f t) w)) (p.values + t) (forward_at w f (elem m (p.right + t)) (part p.values t m) t)

module _ (p : Places) (n w t : ℕ) where
  -- the value at t is put backward
  abbrev pub value_back : List Float → List Float
  value_back m = let r = region_at p n w m in set m (p.values + t) (backward_at w r.factors (elem r.values t) (drop (t + 1) r.values) t)

  -- a pass that does the first t rows, and one that puts the values from t on backward
  abbrev pub Forth : List Float → List Float → Type 0
  Forth m m' = region_at p n w m' ≡ stood_in w t (region_at p n w m)

  abbrev pub Back : List Float → List Float → Type 0
  Back m m' = region_at p n w m' ≡ backed_in w t (region_at p n w m)
