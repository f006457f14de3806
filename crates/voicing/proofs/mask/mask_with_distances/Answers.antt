use mathlib.Core.Path.{◌≡◌, sym, ap, ◌∙◌}
use Prim.Native.Nat.{ℕ}
use Rattle.std.proofs.Common.{[], ◌∷◌}
use Rattle.lists.specs.Answers.{answer_of}
use Rattle.lists.specs.Totals.{total}
use Rattle.lists.proofs.Ends.{passed}
use Rattle.voicing.specs.Promise.{masked_distances_refusal}
use Rattle.voicing.proofs.Ways.{masked_room, masked_done}
use Rattle.voicing.proofs.mask.mask_with_distances.Goals as goal
use Rattle.voicing.proofs.mask.mask_with_distances.Goals.{In_ok-frames}

-- nothing is refused
ok : (c : In_ok-frames) → let a = c.args in (masked_distances_refusal a.weights.now a.durations.now a.voiced.now a.left.now a.right.now ≡ 0) × (total a.durations.now ≡ c.in_ok-frames.frames)
ok c =
    let a = c.args in
    passed _ _ _ (c.in_ok-frames.ensures ∙ ap (λ (k : ℕ). answer_of k (total a.durations.now ∷ [])) (masked_room a.weights.now a.threshold a.durations.now a.voiced.now a.left.now a.right.now _ _ c.min.ensures c.min-room.ensures))

pub returns : goal.returns
returns c =
    let a = c.args in
    let o = ok (goal.at.returns c).In_ok-frames in
    masked_done a.weights.now a.threshold a.durations.now a.voiced.now a.left.now a.right.now o.0 _ (sym o.1) _ _ _ _ _ c.mask.ensures c.boundary_distances.ensures
