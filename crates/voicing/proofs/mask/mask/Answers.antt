use mathlib.Core.Path.{◌≡◌, refl, sym, ◌∙◌}
use Prim.Native.Nat.{◌≤◌}
use native.Mathlib.Omega.{arith}
use lib.ListN.{length}
use lib.Seq.{length-take-le}
use Rattle.lists.specs.Totals.{total}
use Rattle.lists.proofs.Ends.{passed}
use Rattle.voicing.specs.Promise.{mask_refusal}
use Rattle.voicing.proofs.Ways.{mask-framed, mask-room, mask_done}
use Rattle.voicing.proofs.mask.mask.Goals as goal
use Rattle.voicing.proofs.mask.mask.Goals.{In_ok-frames}

module _ (c : In_ok-frames) where
  -- nothing is refused
  ok : (mask_refusal c.args.weights.now c.args.durations.now c.args.voiced.now ≡ 0) × (total c.args.durations.now ≡ c.in_ok-frames.frames)
  ok = passed _ _ _ c.in_ok-frames.ensures

  room : c.in_ok-frames.frames ≤ length c.args.voiced.now
  room = omega (arith, ok.1, mask-room c.args.weights.now c.args.threshold c.args.durations.now c.args.voiced.now ok.0)

pub mark_states-requires : goal.mark_states-requires
mark_states-requires c =
    let s = c.args in
    let here = (goal.at.mark_states-requires c).In_ok-frames in
    (omega (arith, (mask-framed s.weights.now s.threshold s.durations.now s.voiced.now (ok here).0).agree), (ok here).1 ∙ sym (length-take-le _ _ (room here)))

pub returns : goal.returns
returns c = let s = c.args in let here = (goal.at.returns c).In_ok-frames in mask_done s.weights.now s.threshold s.durations.now s.voiced.now (ok here).0 _ _ _ (ok here).1 refl c.mark_states.ensures
