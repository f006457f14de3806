-- A mask by flags: what it has to do with states and their frames, and with the mask whose flags they are.
use mathlib.Core.Path.{◌≡◌, refl, ap, ◌∙◌}
use mathlib.Core.Bool.{Bool, false}
use mathlib.Core.List.{List, [], ◌∷◌, ◌++◌, append_assoc, map}
use Prim.Native.Nat.{ℕ, zero, suc, ◌+◌, ◌<◌, ◌≤◌}
use native.Mathlib.Nat.{add-zero}
use native.Mathlib.Numerals.{add-one}
use native.Mathlib.Omega.{arith}
use borrow.Author.Tests.{ne_eqb}
use lib.ListN.{length, take, drop, get_or, replicate, length-append, length-map, length-replicate, take-append-drop, drop_of_length-le}
use lib.Seq.{drop_at, drop-cons, drop-drop, get_or-drop, take_all}
use lib.Ieee.{Float}
use Rattle.lists.specs.Totals.{total}
use Rattle.lists.specs.Flags.{flag, is_on}
use Rattle.lists.specs.Frames.{expand, count}
use Rattle.lists.proofs.Counts.{count_most}
use Rattle.lists.proofs.Expansions.{map-replicate, drop-run}
use Rattle.lists.proofs.Flags.{flag-back}
use Rattle.lists.proofs.Sums.{total-append, total-more}
use Rattle.model.specs.Weight.{voiced_at}
use Rattle.voicing.specs.Mask.{mask_of, weights_of, stream_mask, mask_in}
use Rattle.voicing.specs.Inner.Fits.{frame, goes_on}
use Rattle.voicing.proofs.Theory.{weights-length}

-- ---- a state's frames

pub frame-next : (ds : List ℕ) (s : ℕ) → s < length ds → frame ds (s + 1) ≡ frame ds s + get_or ds s 0
frame-next ds s h = total-more ds s h

pub total-most : (ds : List ℕ) (s : ℕ) → frame ds s ≤ total ds
total-most ds s = omega (arith, ap total (take-append-drop s ds), total-append (take s ds) (drop s ds))

-- its d frames from frame f on, and the frame behind the last state
module _ (ds : List ℕ) (s f : ℕ) (e : f ≡ frame ds s) where
  pub frame-fits : (d : ℕ) → s < length ds → d ≡ get_or ds s 0 → f + d ≤ total ds
  frame-fits d t o = omega (arith, frame-next ds s t, total-most ds (s + 1))

  pub frame-last : length ds ≤ s → f ≡ total ds
  frame-last h = e ∙ ap total (take_all s ds h)

module _ {A : Type 0} where
  -- of some items those from place f on are x, d times, and then the others
  abbrev pub Run : List A → ℕ → ℕ → A → Type 0
  Run xs f d x = drop f xs ≡ replicate d x ++ drop (f + d) xs

-- ---- a mask by flags

pub mask-long : (ds flags : List ℕ) → length (mask_in ds flags) ≡ total ds
unfolding mask_in total
mask-long [] flags = refl
mask-long (d ∷ ds) flags = simp (length-append, length-replicate) (omega (arith, mask-long ds (drop d flags)))

-- no more of them are voiced
pub mask-voiced : (ds flags : List ℕ) → count (mask_in ds flags) ≤ total ds
mask-voiced ds flags = omega (arith, count_most (mask_in ds flags), mask-long ds flags)

mask-drop : (ds flags : List ℕ) (s : ℕ) → drop (frame ds s) (mask_in ds flags) ≡ mask_in (drop s ds) (drop (frame ds s) flags)
unfolding mask_in total
mask-drop ds flags zero = refl
mask-drop [] flags (suc s) = refl
mask-drop (d ∷ ds) flags (suc s) = drop-run d (frame ds s) (is_on (get_or flags 0 0)) (mask_in ds (drop d flags)) ∙ mask-drop ds (drop d flags) s ∙ rw drop-drop

-- a state's flag at all of its frames
goes_on_lem : (d x : ℕ) (b : Bool) → b ≡ goes_on (x ∷ []) 0 d → replicate d b ≡ replicate d (is_on x)
goes_on_lem zero x b e = refl
goes_on_lem (suc d) x b e = rw (e, ne_eqb (suc d) 0 (λ z. omega arith))

pub goes_some : (flags : List ℕ) (f d : ℕ) → false ≡ goes_on flags f d → 0 < d
goes_some flags f zero e = absurd (let z : ◌≡◌ {A = ℕ} 0 1 = cc in omega arith)
goes_some flags f (suc d) e = omega arith

module _ (ds flags : List ℕ) (s f : ℕ) (e : f ≡ frame ds s) where
  pub mask-run : (d : ℕ) (b : Bool) → s < length ds → d ≡ get_or ds s 0 → b ≡ goes_on flags f d → Run (mask_in ds flags) f d b
  unfolding mask_in
  mask-run d b h o g =
      let k : f + d ≡ frame ds (suc s) = omega (arith, rw add-one at (frame-next ds s h)) in
      let r : replicate d b ≡ replicate d (is_on (get_or flags f 0)) = goes_on_lem d (get_or flags f 0) b g in
      rw (k, mask-drop ds flags (suc s), ← k, r, e, mask-drop ds flags s, drop-cons ds s 0 h, get_or-drop, add-zero, drop-drop, ← o)

  pub mask_end : length ds ≤ s → drop f (mask_in ds flags) ≡ []
  mask_end h = let l : length (mask_in ds flags) ≤ f = omega (arith, mask-long ds flags, frame-last ds s f e h) in drop_of_length-le (mask_in ds flags) l

-- ---- the flags of a mask say that mask

pub mask-flagged : (ds : List ℕ) (bs : List Bool) (rest : List ℕ) → length bs ≡ length ds → mask_in ds (map flag (expand ds bs) ++ rest) ≡ expand ds bs
unfolding mask_in expand
mask-flagged [] bs rest e = refl
mask-flagged (d ∷ ds) [] rest e = absurd (omega arith)
mask-flagged (zero ∷ ds) (b ∷ bs) rest e = mask-flagged ds bs rest (omega arith)
mask-flagged (suc d ∷ ds) (b ∷ bs) rest e =
    let cut : drop d (map flag (replicate d b ++ expand ds bs) ++ rest) ≡ map flag (expand ds bs) ++ rest = rw (map-replicate flag d b (expand ds bs), append_assoc) (drop_at (replicate d (flag b)) (map flag (expand ds bs) ++ rest) d (length-replicate d (flag b))) in
    rw (cut, flag-back b, mask-flagged ds bs rest (omega arith))

-- and so the flags of a stream's mask
module _ (size : ℕ) (records : List Float) (threshold : Float) (ds : List ℕ) where
  states-long : length (map (voiced_at threshold) (weights_of size records (length ds))) ≡ length ds
  states-long = simp length-map (weights-length size records (length ds))

  pub stream-flagged : (rest : List ℕ) → mask_in ds (map flag (stream_mask size records threshold ds) ++ rest) ≡ stream_mask size records threshold ds
  unfolding mask_of
  stream-flagged rest = mask-flagged ds (map (voiced_at threshold) (weights_of size records (length ds))) rest states-long
