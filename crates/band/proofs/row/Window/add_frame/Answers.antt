use mathlib.Core.Path.{refl}
use native.Mathlib.Nat.{add-sub_cancel_left}
use native.Mathlib.Omega.{arith}
use Rattle.band.proofs.Terms.{frame-zero, frame_row, frame_right}
use Rattle.band.proofs.row.Window.add_frame.Goals as goal

pub returns-then-c : goal.returns-then-c
returns-then-c c = let s = c.args in
    let p = c.requires.f_bound in frame-zero s.self.taps.now s.self.ivars.now s.self.means.now s.t s.f p.0 p.1 _ refl s.row.now s.right c.if-c.true

pub returns : goal.returns
returns c =
    let s = c.args in
    let p = c.requires.f_bound in (
      rw (c.add_taps.ensures, add-sub_cancel_left) (frame_row s.self.taps.now s.self.ivars.now s.self.means.now s.t s.f p.0 p.1 _ refl s.row.now _ c.if-c.false (omega (arith, c.min-m.ensures))),
      (frame_right s.self.taps.now s.self.ivars.now s.self.means.now s.t s.f p.0 p.1 _ refl s.right c.if-c.false),
    )
