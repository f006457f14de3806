-- What a loop over states has passed: so many states, so many frames, and so many of those voiced.
use mathlib.Core.Path.{◌≡◌, refl, ap, ◌∙◌}
use mathlib.Core.Bool.{Bool}
use mathlib.Core.List.{List}
use Prim.Native.Nat.{ℕ, ◌+◌, ◌<◌, ◌≤◌}
use native.Mathlib.Omega.{arith}
use lib.ListN.{length, drop, get_or, replicate}
use Rattle.lists.specs.Totals.{total}
use Rattle.lists.specs.Frames.{count}
use Rattle.lists.proofs.Counts.{count-append}
use Rattle.voicing.specs.Mask.{mask_in}
use Rattle.voicing.specs.Inner.Fits.{frame, goes_on}
use Rattle.voicing.proofs.Masks.{frame-next, frame-fits, mask-voiced, Run, mask-run, mask_end}

pub record Passed (ds flags : List ℕ) (s f k : ℕ) : Type 0 where
  pub within : s ≤ length ds
  pub frames : f ≡ frame ds s
  pub voiced : k + count (drop f (mask_in ds flags)) ≡ count (mask_in ds flags)

pub passed_none : {ds flags : List ℕ} → Passed ds flags 0 0 0
unfolding total
passed_none = record { within = omega arith; frames = refl; voiced = omega arith }

module _ {ds flags : List ℕ} {s f k : ℕ} (p : Passed ds flags s f k) where
  -- all of them
  pub passed-all : length ds ≤ s → k ≡ count (mask_in ds flags)
  unfolding count
  passed-all h = let n : count (drop f (mask_in ds flags)) ≡ 0 = rw (mask_end ds flags s f p.frames h) in omega (arith, p.voiced)

  -- the next state's d frames
  module _ (t : s < length ds) {d : ℕ} (o : d ≡ get_or ds s 0) where
    pub passed-fits : f + d ≤ total ds
    passed-fits = frame-fits ds s f p.frames d t o

    -- of which c are voiced, all or none
    module _ {b : Bool} (g : b ≡ goes_on flags f d) where
      pub passed-run : Run (mask_in ds flags) f d b
      passed-run = mask-run ds flags s f p.frames d b t o g

      module _ {c : ℕ} (z : c ≡ count (replicate d b)) where
        closed : count (drop f (mask_in ds flags)) ≡ c + count (drop (f + d) (mask_in ds flags))
        closed = ap count passed-run ∙ count-append (replicate d b) (drop (f + d) (mask_in ds flags)) ∙ rw z

        pub passed-room : k + c ≤ count (mask_in ds flags)
        passed-room = omega (arith, p.voiced, closed)

        pub passed-few : k + c ≤ total ds
        passed-few = omega (arith, passed-room, mask-voiced ds flags)

        pub passed-next : Passed ds flags (s + 1) (f + d) (k + c)
        passed-next = record { within = omega arith; frames = omega (arith, p.frames, frame-next ds s t); voiced = omega (arith, p.voiced, closed) }
