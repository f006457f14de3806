-- Each of the lower floors' steps keeps the lengths of a region's lists.
use mathlib.Core.Path.{refl}
use mathlib.Core.List.{List, map}
use Prim.Native.Nat.{ℕ, ◌+◌}
use native.Mathlib.Omega.{arith}
use lib.Ieee.{Float, binary64, mul}
use Rattle.lists.specs.Parts.{part}
use Rattle.lists.specs.Flags.{is_on}
use Rattle.region.specs.Rows.{elem}
use Rattle.voicing.proofs.Sizes.{paired_sized}
use Rattle.band.proofs.Lengths.{rowed-sized}
use Rattle.solve.proofs.Solved.{solved-sized}
use Rattle.gv.proofs.Varied.{varied-sized}
use Rattle.mlpg_adjust.specs.Trajectory.{state_size}
use Rattle.mlpg_adjust.specs.Inner.Groups.{voiced_in, layout_of}
use Rattle.mlpg_adjust.specs.declared.Stream.{Stream}
use Rattle.mlpg_adjust.proofs.Marks.{mask-long}
use Rattle.mlpg_adjust.proofs.Components.{Keeps, target, closed, rowed, done}

module _ (s : Stream) (widths : List ℕ) (coefs records : List Float) (ds : List ℕ) (first lanes : ℕ) where
  pub closed-keeps : Keeps (layout_of s widths records ds) lanes (closed s widths coefs records ds first lanes)
  closed-keeps l r h k = paired_sized (state_size s widths) records s.v (first + l) widths (voiced_in s widths records ds) ds (mask-long s widths records ds) (layout_of s widths records ds) r refl refl k

  pub rowed-keeps : Keeps (layout_of s widths records ds) lanes (rowed s widths coefs records ds first lanes)
  rowed-keeps l r h k = rowed-sized widths coefs (layout_of s widths records ds) r k

  pub done-keeps : Keeps (layout_of s widths records ds) lanes (done s widths coefs records ds first lanes)
  done-keeps l r h k = solved-sized (layout_of s widths records ds) r k

  pub target_keeps : (gv : List Float) (on : List ℕ) (weight : Float) → Keeps (layout_of s widths records ds) lanes (target s widths coefs records ds on gv first lanes weight)
  target_keeps gv on weight l r h k =
      varied-sized (layout_of s widths records ds) (omega arith) (map is_on on) (mul binary64 (elem (part first lanes gv) l) weight) (elem (part (s.v + first) lanes gv) l) r k
