-- The doors of the calls over a work space: what each says where it stands open.
use mathlib.Core.Path.{◌≡◌, ◌∙◌}
use mathlib.Core.Bool.{true}
use mathlib.Core.List.{List, ◌++◌, map}
use Prim.Native.Nat.{ℕ}
use borrow.Author.Tests.{leb-true}
use lib.ListN.{length, drop}
use lib.Ieee.{Float}
use Rattle.lists.specs.Totals.{total}
use Rattle.lists.specs.Flags.{flag}
use Rattle.lists.specs.Frames.{count}
use Rattle.lists.proofs.Flags.{both}
use Rattle.voicing.specs.Mask.{stream_mask, mask_in}
use Rattle.voicing.specs.Space.{flagged, marks, MarkSays}
use Rattle.voicing.specs.Inner.Fits.{Flagged}
use Rattle.voicing.specs.declared.Voicing.{Voicing}
use Rattle.voicing.proofs.Masks.{stream-flagged}

pub flagged_is : (ds : List ℕ) (flags : ℕ) → flagged ds flags ≡ true → Flagged ds flags
flagged_is ds flags e =
    let p = both _ _ e in
    let q = both _ _ p.0 in
    record { few = leb-true _ _ q.0; frames = leb-true _ _ q.1; room = leb-true _ _ p.1 }

-- ---- `mark`

module _ (u : Voicing) (records : List Float) (ds flags : List ℕ) where
  pub mark-done : marks u records ds (length flags) ≡ true → (n r : ℕ) (w : List ℕ) → n ≡ total ds → w ≡ map flag (stream_mask u.size records u.threshold ds)
      → r ≡ count (mask_in ds (w ++ drop n flags)) → MarkSays u records ds flags r (w ++ drop n flags)
  mark-done e n r w o q h = record {
    answer = rw e (h ∙ rw (q, stream-flagged u.size records u.threshold ds (drop n flags)));
    marked = rw (e, q, o);
  }
