-- What only the contracts of the global variance's private functions say.
use Rattle.std.specs.Prelude.{◌≡◌, Bool, true, false, cond, List, [], ◌∷◌, ◌++◌, ℕ, suc, ◌+◌, ◌-◌, ◌*◌, ◌<◌, ◌≤◌, ◌^◌, eqb, length, get_or, drop, Float}
use Rattle.std.proofs.lemmas.List.Edits.{sets}
use Rattle.std.specs.Float.{nan, binary64}
use Rattle.std.specs.Float.Ieee.{add, sub, mul, div, neg}
use Rattle.lists.specs.Build.{build, over}
use Rattle.lists.specs.Frames.{count}
use Rattle.floats.specs.Numbers.{nought, number}
use Rattle.region.specs.Rows.{elem}
use Rattle.region.specs.Region.{Region, region_at}
use Rattle.region.specs.Inner.Passes.{Spaced, replaced}
use Rattle.region.specs.declared.Layout.{Layout}
use Rattle.region.specs.declared.Places.{Places}
use Rattle.gv.specs.Gv.{W1, W2, two, step_init, conv_gv, gradient_at, gradient, weight_of, hmm_term, dv_of, next_g}
use Rattle.gv.specs.Parmgen.{iterate, State, state, values_of, turn}
use Rattle.gv.specs.declared.MlpgGlobalVariance.{MlpgGlobalVariance}
use Rattle.gv.specs.declared.steps.Pull.{Pull}

-- the first frame that is switched, or the end
unfoldable pub first_on : List Bool → ℕ
first_on [] = 0
first_on (true ∷ bs) = 0
first_on (false ∷ bs) = suc (first_on bs)

-- what it says of the switches
pub record Counted (g : MlpgGlobalVariance) (on : List Bool) : Type 0 where
  pub frames : length on ≡ g.length
  pub number : g.switched ≡ count on
  pub begin : g.first ≡ first_on on

-- it is of a layout and its switches
pub record Planned (g : Layout) (on : List Bool) (s : MlpgGlobalVariance) : Type 0 where
  pub windows : s.windows ≡ g.windows
  pub width : s.width ≡ g.w
  pub length : s.length ≡ g.n
  pub counted : Counted s on

-- some frame is switched, and each has one of so many values
pub record Sampled (g : MlpgGlobalVariance) (on : List Bool) (values : ℕ) : Type 0 where
  pub counted : Counted g on
  pub all : values ≡ g.length
  pub few : g.length ≤ 65536
  pub some : 0 < g.switched

-- what it needs of a region
pub record Suited (g : MlpgGlobalVariance) (p : Places) (size : ℕ) : Type 0 where
  pub some : 0 < g.width
  pub narrow : g.width < 2 ^ 32
  pub few : g.length ≤ 65536
  pub sets : g.windows ≤ 4
  pub spaced : Spaced p g.length g.width size

-- a region m is d with the gradient's first t rows where the factors were, and h is the sum of their terms
pub record Graded (p : Places) (n w : ℕ) (weight : Float) (d m : List Float) (t : ℕ) (h : Float) : Type 0 where
  pub rows : let r = region_at p n w d in m ≡ sets d p.factors (build (gradient_at w r.matrix r.values) t)
  pub sum : let r = region_at p n w d in h ≡ over (λ i y. add binary64 y (hmm_term weight (elem r.side i) (gradient_at w r.matrix r.values i) (elem r.values i))) t nought

-- the numbers of a step that are the same for every frame
pub record Pulls (s : Pull) (windows n : ℕ) (gv_mean gv_vari average vari size : Float) : Type 0 where
  pub weight : s.weight ≡ weight_of windows n
  pub dv : s.dv ≡ dv_of n gv_mean gv_vari vari
  pub scale : s.scale ≡ div binary64 (mul binary64 W2 two) (number (n * n))
  pub spread : s.spread ≡ mul binary64 (mul binary64 (number (n - 1)) gv_vari) (sub binary64 vari gv_mean)
  pub twice : s.twice ≡ mul binary64 two gv_vari
  pub mean : s.mean ≡ average
  pub step : s.step ≡ size

-- a frame's value x after the step
abbrev pub pulled : Pull → Float → Bool → Float → Float → Float → Float
pulled s diagonal b g m x =
    let d = sub binary64 x s.mean in
    let h = sub binary64 (mul binary64 (mul binary64 (neg W1) s.weight) diagonal) (mul binary64 s.scale (add binary64 s.spread (mul binary64 (mul binary64 s.twice d) d))) in
    add binary64 x (mul binary64 s.step (next_g s.weight s.dv h b g m d))

-- frame t's value after the step, where the region has the gradient
abbrev pub moved_in : MlpgGlobalVariance → Places → List Bool → Pull → List Float → ℕ → Float
moved_in g p on s m t = pulled s (elem m (p.rows + t * g.width)) (get_or on t false) (elem m (p.factors + t)) (elem m (p.right + t)) (elem m (p.values + t))

-- ---- the six lists of a region whose equations are g's

abbrev pub lists_in : MlpgGlobalVariance → Places → List Float → Region
lists_in g p m = region_at p g.length g.width m

-- the gradient of its values
abbrev pub gradient_of : MlpgGlobalVariance → Region → List Float
gradient_of g r = gradient g.width r.matrix r.values

-- a gradient of n numbers in front of its factors, and other values
abbrev pub put : ℕ → List Float → List Float → Region → Region
put n gradient values r = replaced r (gradient ++ drop n r.factors) values

module _ (g : MlpgGlobalVariance) (on : List Bool) (gv_mean gv_vari : Float) (r : Region) where
  -- one turn of its values
  abbrev pub turn_in : State → State
  turn_in = turn g.width r.matrix r.side on g.windows gv_mean gv_vari

  -- it is r' after one turn, and the size of the step and the objective are new
  pub record Turned (step prev : Float) (r' : Region) (step' prev' : Float) : Type 0 where
    pub region : r' ≡ put g.length (gradient_of g r) (values_of (turn_in (state r.values step prev))) r
    pub descent : state r'.values step' prev' ≡ turn_in (state r.values step prev)

  -- after five turns from these values on it has the gradient of those before the fifth
  abbrev pub five_turns : List Float → Region
  five_turns par = let s = state par step_init nan in put g.length (gradient g.width r.matrix (values_of (iterate turn_in 4 s))) (values_of (iterate turn_in 5 s)) r

  -- the lists after the global variance
  abbrev pub parmgen_in : Region
  parmgen_in = cond (eqb (count on) 0) r (five_turns (conv_gv on gv_mean r.values))
