-- A component's values, from its region of the work space after each of the lower floors' calls.
use mathlib.Core.Path.{◌≡◌, refl, sym, ap, ◌∙◌}
use mathlib.Core.List.{List, map}
use Prim.Native.Nat.{ℕ, ◌+◌, ◌*◌, ◌<◌, ◌≤◌}
use native.Mathlib.Omega.{arith}
use lib.ListN.{length}
use lib.Ieee.{Float, binary64, mul}
use Rattle.lists.specs.Parts.{part}
use Rattle.lists.specs.Flags.{is_on}
use Rattle.model.specs.Windows.{band_width}
use Rattle.region.specs.Rows.{elem}
use Rattle.region.specs.Region as region
use Rattle.region.specs.Region.{Region, region_in, region_of, each_region, Sized}
use Rattle.region.specs.declared.Layout.{Layout}
use Rattle.region.proofs.Flats.{each-length, each-region, before-sized}
use Rattle.region.proofs.Readings.{part_elem}
use Rattle.voicing.specs.Space.{paired_in}
use Rattle.band.specs.Promise.{rowed_in}
use Rattle.solve.specs.Promise.{solved_in}
use Rattle.gv.specs.Promise.{varied_in}
use Rattle.gv.specs.Parmgen.{parmgen}
use Rattle.mlpg_adjust.specs.Trajectory.{state_size, with_gv, voiced_ivars, voiced_means, matrix, side, solved}
use Rattle.mlpg_adjust.specs.Inner.Groups.{voiced_in, layout_of, component_values}
use Rattle.std.proofs.Common.{Option, None, Some}
use Rattle.mlpg_adjust.specs.declared.Stream.{Stream}

-- ---- steps over the regions of several components, one after the other

module _ (g : Layout) (lanes : ℕ) where
  abbrev pub region_at : ℕ → List Float → Region
  region_at l work = region_in g (region_of (region.size_of g) l work)

  -- a step that keeps the lists' lengths
  abbrev pub Keeps : (ℕ → Region → Region) → Type 0
  Keeps f = (l : ℕ) (r : Region) → l < lanes → Sized g r → Sized g (f l r)

  module _ (f : ℕ → Region → Region) (k : Keeps f) (work : List Float) (fit : lanes * region.size_of g ≤ length work) where
    sized : (l : ℕ) → l < lanes → Sized g (f l (region_at l work))
    sized l h = k l (region_at l work) h (before-sized g lanes f work fit l h)

    pub step_fits : lanes * region.size_of g ≤ length (each_region g lanes f work)
    step_fits = rw (each-length g lanes f work fit sized) fit

    pub step-at : (l : ℕ) → l < lanes → region_at l (each_region g lanes f work) ≡ f l (region_at l work)
    step-at l h = each-region g lanes f work fit sized l h

-- ---- a component of a stream

module _ (s : Stream) (widths : List ℕ) (coefs records : List Float) (ds : List ℕ) where
  abbrev pub g : Layout
  g = layout_of s widths records ds

  -- closed up, with its normal equations, and solved
  abbrev pub solved_region : ℕ → Region → Region
  solved_region component r = solved_in g (rowed_in widths coefs g (paired_in (state_size s widths) records s.v widths (voiced_in s widths records ds) ds component r))

  module _ (component : ℕ) (r : Region) where
    matrix_is : (solved_region component r).matrix ≡ matrix (state_size s widths) records s.threshold ds s.v widths coefs component
    unfolding matrix voiced_ivars
    matrix_is = refl

    side_is : (solved_region component r).side ≡ side (state_size s widths) records s.threshold ds s.v widths coefs component
    unfolding side voiced_ivars voiced_means
    side_is = refl

    solved_is : (solved_region component r).values ≡ solved (state_size s widths) records s.threshold ds s.v widths coefs component
    unfolding solved matrix side voiced_ivars voiced_means
    solved_is = refl

  -- ---- the values of each lane, after the global variance where it is on

  module _ (on : List ℕ) (gv : List Float) (first lanes : ℕ) where
    abbrev pub target : Float → ℕ → Region → Region
    target weight l = varied_in g (map is_on on) (mul binary64 (elem (part first lanes gv) l) weight) (elem (part (s.v + first) lanes gv) l)

    module _ (keeps : (weight : Float) → Keeps g lanes (target weight)) (work : List Float) (fit : lanes * region.size_of g ≤ length work) (l : ℕ) (h : l < lanes) (r : Region)
        (at : region_at g lanes l work ≡ solved_region (first + l) r) where
      lane_values : (switch : Option Float) → (region_at g lanes l (with_gv switch (λ weight. each_region g lanes (target weight) work) work)).values
          ≡ with_gv switch
          (λ weight. parmgen (band_width widths) (matrix (state_size s widths) records s.threshold ds s.v widths coefs (first + l)) (side (state_size s widths) records s.threshold ds s.v widths coefs (first + l))
          (map is_on on) (length widths) (mul binary64 (elem gv (first + l)) weight) (elem gv (s.v + (first + l))) (solved (state_size s widths) records s.threshold ds s.v widths coefs (first + l)))
          (solved (state_size s widths) records s.threshold ds s.v widths coefs (first + l))
      lane_values None = ap (λ (q : Region). q.values) at ∙ solved_is (first + l) r
      lane_values (Some weight) =
          let mean-is : elem (part first lanes gv) l ≡ elem gv (first + l) = sym (part_elem first lanes l gv h) in
          let o : s.v + first + l ≡ s.v + (first + l) = omega arith in
          let vari-is : elem (part (s.v + first) lanes gv) l ≡ elem gv (s.v + (first + l)) = sym (part_elem (s.v + first) lanes l gv h) ∙ ap (elem gv) o in
          ap (λ (q : Region). q.values) (step-at g lanes (target weight) (keeps weight) work fit l h)
          ∙ ap (λ (q : Region). (target weight l q).values) at
          ∙ rw (mean-is, vari-is, solved_is (first + l) r, matrix_is (first + l) r, side_is (first + l) r)

      pub values_are : (region_at g lanes l (with_gv s.gv (λ weight. each_region g lanes (target weight) work) work)).values ≡ component_values s widths coefs records ds on gv (first + l)
      values_are = lane_values s.gv

  -- ---- three steps: closed up, with normal equations, solved

  module _ (first lanes : ℕ) where
    abbrev pub closed : ℕ → Region → Region
    closed l = paired_in (state_size s widths) records s.v widths (voiced_in s widths records ds) ds (first + l)

    abbrev pub rowed : ℕ → Region → Region
    rowed l = rowed_in widths coefs g

    abbrev pub done : ℕ → Region → Region
    done l = solved_in g

    module _ (a : Keeps g lanes closed) (b : Keeps g lanes rowed) (c : Keeps g lanes done) (work : List Float) (fit : lanes * region.size_of g ≤ length work) where
      abbrev work₁ : List Float
      work₁ = each_region g lanes closed work

      abbrev work₂ : List Float
      work₂ = each_region g lanes rowed work₁

      fit₁ : lanes * region.size_of g ≤ length work₁
      fit₁ = step_fits g lanes closed a work fit

      fit₂ : lanes * region.size_of g ≤ length work₂
      fit₂ = step_fits g lanes rowed b work₁ fit₁

      pub solved-fits : lanes * region.size_of g ≤ length (each_region g lanes done work₂)
      solved-fits = step_fits g lanes done c work₂ fit₂

      pub solved-at : (l : ℕ) → l < lanes → region_at g lanes l (each_region g lanes done work₂) ≡ solved_region (first + l) (region_at g lanes l work)
      solved-at l h =
          step-at g lanes done c work₂ fit₂ l h
          ∙ ap (solved_in g) (step-at g lanes rowed b work₁ fit₁ l h ∙ ap (rowed_in widths coefs g) (step-at g lanes closed a work fit l h))
