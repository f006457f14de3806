-- What the global variance promises.
use Rattle.std.specs.Prelude.{◌≡◌, Bool, cond, ◌&&◌, List, ◌++◌, map, ℕ, ◌*◌, length, drop, ltb, leb, eqb, Float}
use Rattle.std.specs.Float.{nan, binary64}
use Rattle.std.specs.Float.Ieee.{mul}
use Rattle.lists.specs.Sizes.{most_windows, most_frames}
use Rattle.lists.specs.Flags.{is_on}
use Rattle.lists.specs.Frames.{count}
use Rattle.region.specs.Rows.{elem}
use Rattle.region.specs.Region.{Region, size_of, each_region}
use Rattle.region.specs.declared.Layout.{Layout}
use Rattle.gv.specs.Gv.{step_init, conv_gv, gradient}
use Rattle.gv.specs.Parmgen.{iterate, state, values_of, turn, parmgen}

-- whether there is anything to do: sizes that the rules allow, a switch a frame, a variance for each mean, and the regions of so many components within so many floats
abbrev pub opens : Layout → ℕ → ℕ → ℕ → ℕ → Bool
opens g on means varis floats =
    ltb 0 g.w && leb g.windows most_windows && leb g.n most_frames && eqb on g.n && eqb varis means && leb (means * size_of g) floats

module _ (g : Layout) (on : List Bool) (mean vari : Float) (r : Region) where
  -- the values before the last of the five steps
  abbrev pub fourth : List Float
  fourth = values_of (iterate (turn g.w r.matrix r.side on g.windows mean vari) 4 (state (conv_gv on mean r.values) step_init nan))

  -- RULES, Global variance: a component's values are drawn towards its global variance. The gradient of the last step stands in front of the factors
  abbrev pub varied_in : Region
  varied_in = record {
    means = r.means;
    ivars = r.ivars;
    matrix = r.matrix;
    side = r.side;
    factors = cond (eqb (count on) 0) r.factors (gradient g.w r.matrix fourth ++ drop g.n r.factors);
    values = parmgen g.w r.matrix r.side on g.windows mean vari r.values;
  }

-- `vary`: RULES, Global variance: the target mean is the GV mean times the weight, and the GV variance stays as given; a mean and a variance for each component
pub record VarySays (g : Layout) (on : List ℕ) (means varis : List Float) (weight : Float) (work work' : List Float) : Type 0 where
  pub space : work' ≡ cond (opens g (length on) (length means) (length varis) (length work))
      (each_region g (length means) (λ l. varied_in g (map is_on on) (mul binary64 (elem means l) weight) (elem varis l)) work) work
