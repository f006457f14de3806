use native.Mathlib.Nat.{add-sub_cancel_left}
use native.Mathlib.Omega.{arith}
use Rattle.band.proofs.Taps.{frames-there, tap-zero, tap-nowhere, tap-ready, tap-done}
use Rattle.band.proofs.passes.Pass.pass_tap.Goals as goal

pub returns-then-c : goal.returns-then-c
returns-then-c c = tap-zero c.args.self.b c.args.self.taps.now c.args.self.u c.args.self.mean c.args.k c.args.m.now c.requires.0 c.if-c.true

pub returns-then-s : goal.returns-then-s
returns-then-s c =
    tap-nowhere c.args.self.b c.args.self.taps.now c.args.self.u c.args.self.mean c.args.k c.args.m.now c.requires.0 _ c.standing-s.ensures c.if-s.true

pub add_terms-requires : goal.add_terms-requires
add_terms-requires c =
    tap-ready c.args.self.b c.args.self.taps.now c.args.self.u c.args.self.mean c.args.k c.args.m.now c.requires.0 c.standing-s.result c.standing-s.ensures c.requires.1.3.most c.if-s.false c.min-few.result (omega (arith, c.min-few.ensures)) _ (rw add-sub_cancel_left) c.requires.1.0 c.requires.1.1 c.requires.1.2 c.requires.1.3

pub returns : goal.returns
returns c =
    tap-done c.args.self.b c.args.self.taps.now c.args.self.u c.args.self.mean c.args.k c.args.m.now c.requires.0 c.standing-s.result c.standing-s.ensures c.requires.1.3.most c.if-s.false c.min-few.result (omega (arith, c.min-few.ensures)) _ (rw add-sub_cancel_left)
    c.if-c.false _ c.add_terms.ensures

pub overflow_add-f : goal.overflow_add-f
overflow_add-f c = omega (arith, (frames-there _ c.args.k c.args.self.b c.standing-s.result c.standing-s.ensures c.requires.1.3.most c.if-s.false).2, c.requires.1.3.room)

pub overflow_sub-f : goal.overflow_sub-f
overflow_sub-f c = (frames-there _ c.args.k c.args.self.b c.standing-s.result c.standing-s.ensures c.requires.1.3.most c.if-s.false).0
