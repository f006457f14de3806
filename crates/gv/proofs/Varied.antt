-- Laws of a region after the global variance.
use mathlib.Core.Path.{◌≡◌, refl, ◌∙◌}
use mathlib.Core.Bool.{Bool, true, false, cond}
use mathlib.Core.List.{List, ◌++◌}
use Prim.Native.Nat.{ℕ, ◌*◌, ◌<◌}
use native.Mathlib.Nat.{mul-le-mul_left}
use native.Mathlib.Omega.{arith}
use lib.Dec.{eqb}
use lib.ListN.{length, drop, length-append, length-drop}
use lib.Ieee.{Float, nan}
use Rattle.lists.specs.Frames.{count}
use Rattle.region.specs.Region.{Region, Sized}
use Rattle.region.specs.Inner.Passes.{replaced}
use Rattle.region.specs.declared.Layout.{Layout}
use Rattle.gv.specs.Gv.{step_init, conv_gv, gradient}
use Rattle.gv.specs.Parmgen.{iterate, state, values_of, turn, parmgen}
use Rattle.gv.specs.Promise.{fourth, varied_in}
use Rattle.gv.specs.Inner.Turns.{put}
use Rattle.gv.proofs.Lengths.{gradient-long, conv_long, turns_long}

module _ (g : Layout) where
  module _ (on : List Bool) (mean vari : Float) (r : Region) where
    -- the values after k steps
    abbrev after : ℕ → List Float
    after k = values_of (iterate (turn g.w r.matrix r.side on g.windows mean vari) k (state (conv_gv on mean r.values) step_init nan))

    abbrev front : List Float
    front = gradient g.w r.matrix (fourth g on mean vari r)

    after-long : (k : ℕ) → length (after k) ≡ length r.values
    after-long k = turns_long g.w r.matrix r.side on g.windows mean vari k (conv_gv on mean r.values) step_init nan ∙ conv_long on mean r.values

    front_long : length front ≡ length r.values
    front_long = gradient-long g.w r.matrix (after 4) ∙ after-long 4

    -- what `parmgen` makes of the lists
    pub varied_is : cond (eqb (count on) 0) r (put g.n front (after 5) r) ≡ varied_in g on mean vari r
    unfolding parmgen
    varied_is =
        (elim (eqb (count on) 0) as (λ b. cond b r (put g.n front (after 5) r) ≡ replaced r (cond b r.factors (front ++ drop g.n r.factors)) (cond b r.values (after 5)))
        [ true ↦ refl | false ↦ refl ])

  -- the lists keep their lengths
  pub varied-sized : 0 < g.w → (on : List Bool) (mean vari : Float) (r : Region) → Sized g r → Sized g (varied_in g on mean vari r)
  unfolding parmgen
  varied-sized pos on mean vari r k = record {
    means = k.means;
    ivars = k.ivars;
    matrix = k.matrix;
    side = k.side;
    factors = (elim (eqb (count on) 0) as (λ b. length (cond b r.factors (front on mean vari r ++ drop g.n r.factors)) ≡ g.n * g.w)
        [ true ↦ k.factors | false ↦ simp (length-append, length-drop) (omega (arith, mul-le-mul_left g.n pos, front_long on mean vari r, k.factors, k.values)) ]);
    values = (elim (eqb (count on) 0) as (λ b. length (cond b r.values (after on mean vari r 5)) ≡ g.n) [ true ↦ k.values | false ↦ after-long on mean vari r 5 ∙ k.values ]);
  }
