use mathlib.Core.Path.{refl, sym, ap, ◌∙◌}
use Prim.Native.Nat.{◌+◌, ◌≤◌}
use native.Mathlib.Omega.{arith}
use lib.ListN.{get_or, length}
use Rattle.lists.specs.Flags.{flag}
use Rattle.voicing.specs.Mask.{weights_of}
use Rattle.lists.proofs.Expansions.{expanding-room, expanding-next, expanded}
use Rattle.voicing.proofs.Theory.{bool_flag, weights-length, weights-at, flag_at, flags_long, mask-flags}
use Rattle.voicing.proofs.mask.mark_states.Goals as goal
use Rattle.voicing.proofs.mask.mark_states.Goals.{In-loop-s}

module _ (c : In-loop-s) where
  -- the state's frames lie within the list
  room : c.loop-s.f + get_or c.args.durations.now c.loop-s.s 0 ≤ length c.loop-s.out
  room = omega (arith, expanding-room _ _ _ _ _ _ c.loop-s.invariant c.loop-s-test.true)

pub loop-s-preserved : goal.loop-s-preserved
loop-s-preserved c =
    let s = c.args in
    let l = c.loop-s in
    let ws = weights_of s.u.size s.records.now (length s.durations.now) in
    let n = weights-length s.u.size s.records.now (length s.durations.now) in
    let w = weights-at s.u.size s.records.now (length s.durations.now) l.s c.loop-s-test.true in
    expanding-next _ _ _ _ _ _ l.invariant _ _ _ _ c.loop-s-test.true (flags_long s.u.threshold ws ∙ n) refl
    (c.from-flag.ensures ∙ bool_flag _ ∙ ap flag c.voiced_at.ensures ∙ sym (flag_at s.u.threshold ws l.s ∙ rw w)) c.fill.ensures

pub returns : goal.returns
returns c = expanded _ _ _ _ _ _ c.loop-s.invariant c.loop-s-test.false ∙ mask-flags _ _ _

pub slice_bounds-fill-end : goal.slice_bounds-fill-end
slice_bounds-fill-end c = room (goal.at.slice_bounds-fill-end c).In-loop-s
