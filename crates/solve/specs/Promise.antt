-- What the solver promises.
use Rattle.std.specs.Prelude.{◌≡◌, Bool, cond, ◌&&◌, List, ℕ, ◌*◌, length, ltb, leb, Float}
use Rattle.region.specs.Region.{Region, size_of, each_region}
use Rattle.region.specs.declared.Layout.{Layout}
use Rattle.solve.specs.Solve.{factor, solution}

-- whether there is anything to solve: rows have a diagonal, and the regions of so many components lie within so many floats
abbrev pub opens : Layout → ℕ → ℕ → Bool
opens g lanes floats = ltb 0 g.w && leb (lanes * size_of g) floats

-- RULES, Band rows: a component's equations are solved; their rows and right side stay
abbrev pub solved_in : Layout → Region → Region
solved_in g r = record {
  means = r.means;
  ivars = r.ivars;
  matrix = r.matrix;
  side = r.side;
  factors = factor g.w r.matrix g.n;
  values = solution g.w r.matrix r.side;
}

-- `solve`: each component's region, and nothing where they don't lie within the list
pub record SolveSays (g : Layout) (lanes : ℕ) (work work' : List Float) : Type 0 where
  pub space : work' ≡ cond (opens g lanes (length work)) (each_region g lanes (λ l. solved_in g) work) work
