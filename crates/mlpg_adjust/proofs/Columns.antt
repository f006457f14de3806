-- Columns of a trajectory: what filling a group's values back leaves, and what all of them make.
use mathlib.Core.Path.{◌≡◌, refl, sym, ap, ◌∙◌}
use mathlib.Core.Bool.{Bool, true}
use mathlib.Core.Logic.{⊎_elim}
use mathlib.Core.List.{List, map}
use Prim.Native.Nat.{ℕ, ◌+◌, ◌-◌, ◌*◌, ◌/◌, ◌%◌, ◌<◌, ◌≤◌}
use native.Mathlib.Nat.{mod-lt}
use native.Mathlib.Omega.{arith}
use borrow.Author.Tests.{le-leb, lt-leb, lt-ltb}
use lib.ListN.{length}
use lib.Ieee.{Float, nan, binary64, mul}
use Rattle.lists.specs.Totals.{total}
use Rattle.lists.specs.Build.{build}
use Rattle.lists.specs.Parts.{part}
use Rattle.lists.specs.Flags.{is_on}
use Rattle.lists.specs.Frames.{expand, select, fill, count}
use Rattle.lists.proofs.Numbers.{le_or_lt}
use Rattle.lists.proofs.Fills.{build-length}
use Rattle.lists.proofs.Builds.{build-at, build_is, build-same}
use Rattle.model.specs.Windows.{band_width}
use Rattle.region.specs.Rows.{elem}
use Rattle.region.specs.Region as region
use Rattle.region.specs.Region.{region_in, region_of}
use Rattle.region.specs.declared.Layout.{Layout}
use Rattle.region.specs.declared.Group.{Group}
use Rattle.voicing.specs.Space.{filled_at}
use Rattle.gv.specs.Parmgen.{parmgen}
use Rattle.mlpg_adjust.specs.Trajectory.{state_size, gv_on, with_gv, matrix, side, solved, varied, trajectory, numbers_of}
use Rattle.mlpg_adjust.specs.Inner.Groups.{voiced_in, column_of, Columned}
use Rattle.std.proofs.Common.{Option, None, Some}
use Rattle.mlpg_adjust.specs.declared.Stream.{Stream}

-- ---- a group's columns

module _ (f : ℕ → List Float) (none : Float) (mask : List Bool) (g : Layout) (c : Group) (work out : List Float) where
  under : (p : ℕ) → p % c.v < c.first → filled_at none mask g c work out p ≡ elem out p
  under p h = rw (lt-leb c.first (p % c.v) h)

  inside : (p : ℕ) → c.first ≤ p % c.v → p % c.v < c.first + c.lanes
      → filled_at none mask g c work out p ≡ elem (fill none mask (region_in g (region_of (region.size_of g) (p % c.v - c.first) work)).values) (p / c.v)
  inside p h l = rw (le-leb c.first (p % c.v) h, lt-ltb (p % c.v) (c.first + c.lanes) l)

  -- the lanes' values are those of their components
  pub columned_next : ((l : ℕ) → l < c.lanes → f (c.first + l) ≡ fill none mask (region_in g (region_of (region.size_of g) l work)).values)
      → Columned f c.v c.first out → Columned f c.v (c.first + c.lanes) (build (filled_at none mask g c work out) (length out))
  columned_next q k = record {
    stands = λ p b h.
        let i : p < length out = rw (build-length (filled_at none mask g c work out) (length out)) at b in
        build-at (filled_at none mask g c work out) (length out) p nan i
        ∙ ⊎_elim
        (λ (a : c.first ≤ p % c.v).
        let e : c.first + (p % c.v - c.first) ≡ p % c.v = omega arith in
        inside p a h ∙ ap (λ (x : List Float). elem x (p / c.v)) (sym (q (p % c.v - c.first) (omega arith)) ∙ ap f e))
        (λ (a : p % c.v < c.first). under p a ∙ k.stands p i a)
        (le_or_lt c.first (p % c.v));
  }

pub columned_none : (f : ℕ → List Float) (v : ℕ) (out : List Float) → Columned f v 0 out
columned_none f v out = record { stands = λ p b h. absurd (omega arith) }

-- ---- all columns

columned_all : (f : ℕ → List Float) (v n : ℕ) (out : List Float) → length out ≡ n * v → 0 < v → Columned f v v out → out ≡ build (λ p. elem (f (p % v)) (p / v)) (n * v)
columned_all f v n out long b k = build_is (λ p. elem (f (p % v)) (p / v)) (n * v) out nan long (λ j h. k.stands j (omega arith) (mod-lt j b))

with_same : {A : Type 0} (switch : Option Float) (f h : Float → A) (x : A) → (gv_on switch ≡ true → (weight : Float) → f weight ≡ h weight) → with_gv switch f x ≡ with_gv switch h x
with_same None f h x e = refl
with_same (Some weight) f h x e = e refl weight

module _ (s : Stream) (widths : List ℕ) (coefs records : List Float) (ds : List ℕ) (gv : List Float) (switches marks : List ℕ)
    (on-is : gv_on s.gv ≡ true → part (total ds) (count (voiced_in s widths records ds)) marks ≡ select (voiced_in s widths records ds) (expand ds switches)) where
  -- a component's values, from the states' switches
  abbrev values_for : ℕ → List Float
  values_for c = with_gv s.gv (λ weight. varied (state_size s widths) records s.threshold ds s.v widths coefs c weight gv switches) (solved (state_size s widths) records s.threshold ds s.v widths coefs c)

  varied-same : (on : List ℕ) (c : ℕ) (weight : Float) → on ≡ select (voiced_in s widths records ds) (expand ds switches)
      → parmgen (band_width widths) (matrix (state_size s widths) records s.threshold ds s.v widths coefs c) (side (state_size s widths) records s.threshold ds s.v widths coefs c)
      (map is_on on) (length widths) (mul binary64 (elem gv c) weight) (elem gv (s.v + c)) (solved (state_size s widths) records s.threshold ds s.v widths coefs c)
      ≡ varied (state_size s widths) records s.threshold ds s.v widths coefs c weight gv switches
  unfolding varied
  varied-same on c weight e =
      ap (λ (o : List ℕ). parmgen (band_width widths) (matrix (state_size s widths) records s.threshold ds s.v widths coefs c) (side (state_size s widths) records s.threshold ds s.v widths coefs c)
      (map is_on o) (length widths) (mul binary64 (elem gv c) weight) (elem gv (s.v + c)) (solved (state_size s widths) records s.threshold ds s.v widths coefs c)) e

  column-same : (c : ℕ) → column_of s widths coefs records ds marks gv c ≡ fill s.fill (voiced_in s widths records ds) (values_for c)
  unfolding column_of
  column-same c = ap (fill s.fill (voiced_in s widths records ds)) (with_same s.gv _ _ _ (λ o weight. varied-same _ c weight (on-is o)))

  pub rendered : (out : List Float) → 0 < s.v → length out ≡ total ds * s.v → Columned (column_of s widths coefs records ds marks gv) s.v s.v out → out ≡ numbers_of s widths coefs records ds gv switches
  unfolding numbers_of trajectory
  rendered out pos long k =
      columned_all (column_of s widths coefs records ds marks gv) s.v (total ds) out long pos k
      ∙ build-same (λ p. elem (column_of s widths coefs records ds marks gv (p % s.v)) (p / s.v)) (λ p. elem (fill s.fill (voiced_in s widths records ds) (values_for (p % s.v))) (p / s.v)) (total ds * s.v)
      (λ j l. ap (λ (x : List Float). elem x (j / s.v)) (column-same (j % s.v)))
