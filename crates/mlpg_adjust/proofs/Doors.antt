-- The lower floors' calls do something for a group of components of a stream that is accepted.
use mathlib.Core.Path.{◌≡◌, refl, sym, ◌∙◌}
use mathlib.Core.Bool.{Bool, true, cond}
use mathlib.Core.List.{List}
use Prim.Native.Nat.{ℕ, ◌+◌, ◌*◌, ◌<◌, ◌≤◌}
use native.Mathlib.Nat.{le_of_eq, add-mul}
use native.Mathlib.Omega.{arith}
use borrow.Author.Tests.{le-leb, lt-ltb, eq-eqb}
use lib.ListN.{length}
use lib.Ieee.{Float}
use Rattle.lists.specs.Totals.{total}
use Rattle.region.specs.Region as region
use Rattle.region.specs.declared.Layout.{Layout}
use Rattle.region.specs.declared.Group.{Group}
use Rattle.voicing.specs.Space.{flagged, grouped, closes, fills}
use Rattle.band.specs.Promise as band
use Rattle.solve.specs.Promise as solve
use Rattle.gv.specs.Promise as gv
use Rattle.mlpg_adjust.specs.Trajectory.{state_size}
use Rattle.mlpg_adjust.specs.Inner.Groups.{Shaped, Marked, layout_of}
use Rattle.mlpg_adjust.specs.declared.Stream.{Stream}

-- a list is written where its door is open
pub opened : {A : Type 0} (b : Bool) (new old l : List A) → b ≡ true → l ≡ cond b new old → l ≡ new
opened b new old l e h = h ∙ rw e

module _ (s : Stream) (widths : List ℕ) (coefs records : List Float) (ds : List ℕ) (k : Shaped s widths coefs records ds) where
  abbrev g : Layout
  g = layout_of s widths records ds

  pub frames-flagged : (flags : ℕ) → total ds ≤ flags → flagged ds flags ≡ true
  frames-flagged flags h = rw (le-leb (length ds) 4096 k.few, le-leb (total ds) 65536 k.frames, le-leb (total ds) flags h)

  module _ (lanes floats : ℕ) (room : lanes * region.size_of g ≤ floats) where
    pub band-opens : band.opens widths coefs g lanes floats ≡ true
    band-opens = rw (k.fit, eq-eqb (length coefs) (total widths) k.whole, eq-eqb (length widths) (length widths) refl, eq-eqb g.w g.w refl, le-leb (lanes * region.size_of g) floats room)

    pub solve_opens : solve.opens g lanes floats ≡ true
    solve_opens = rw (lt-ltb 0 g.w (omega arith), le-leb (lanes * region.size_of g) floats room)

  module _ (marks : List ℕ) (m : Marked s widths records ds marks) (c : Group) (e : c.v ≡ s.v) (h : c.first + c.lanes ≤ c.v) (floats : ℕ) (room : c.lanes * region.size_of g ≤ floats) where
    group-opens : grouped ds marks g c floats ≡ true
    group-opens =
        let q : c.v ≤ 64 = rw e k.most_v in
        rw (frames-flagged (length marks) (omega (arith, m.room)), m.flags, eq-eqb g.n g.n refl, le-leb c.v 64 q, le-leb (c.first + c.lanes) c.v h, le-leb (c.lanes * region.size_of g) floats room)

    pub closing-opens : closes (state_size s widths) records widths ds marks g c floats ≡ true
    closing-opens =
        let pairs : (length widths + length widths) * c.v ≤ state_size s widths = rw (e, add-mul (length widths) (length widths) s.v) (omega arith) in
        rw (
          group-opens,
          eq-eqb (length widths) (length widths) refl,
          le-leb (length widths) 4 k.most-windows,
          le-leb ((length widths + length widths) * c.v) (state_size s widths) pairs,
          le-leb (length ds * state_size s widths) (length records) (le_of_eq (sym k.recorded)),
        )

    pub filling-opens : (numbers : ℕ) → numbers ≡ total ds * c.v → fills ds marks g c floats numbers ≡ true
    filling-opens numbers o = rw (group-opens, eq-eqb numbers (total ds * c.v) o)

pub gv_opens : (g : Layout) (on means varis floats : ℕ) → 0 < g.w → g.windows ≤ 4 → g.n ≤ 65536 → on ≡ g.n → varis ≡ means → means * region.size_of g ≤ floats
    → gv.opens g on means varis floats ≡ true
gv_opens g on means varis floats a b d e o r =
    rw (lt-ltb 0 g.w a, le-leb g.windows 4 b, le-leb g.n 65536 d, eq-eqb on g.n e, eq-eqb varis means o, le-leb (means * region.size_of g) floats r)
