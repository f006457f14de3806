-- What the calls of the mask promise.
use Rattle.std.specs.Prelude.{◌≡◌, cond, not, Result, List, [], ◌∷◌, map, ℕ, length, ltb, eqb, Float}
use Rattle.lists.specs.Sizes.{most_states, most_frames}
use Rattle.lists.specs.Totals.{total}
use Rattle.lists.specs.Refusals.{or_else}
use Rattle.lists.specs.Answers.{answer_of, written}
use Rattle.lists.specs.Flags.{flag, is_on}
use Rattle.voicing.specs.Mask.{mask_of}
use Rattle.voicing.specs.Boundaries.{lefts, rights}
use Rattle.model.specs.declared.voice.model.Weight.TheVariants.{Given}
use Rattle.lists.specs.Ends.{counted}
use Rattle.lists.specs.declared.Refusal.{Refusal}

-- RULES, Refusals: 5 for more than 65,536 frames
abbrev pub too_many : ℕ → ℕ
too_many frames = cond (ltb most_frames frames) 5 0

-- RULES, Refusals: 6 for an output that is too short
abbrev pub too_short : ℕ → List ℕ → ℕ
too_short frames out = cond (ltb (length out) frames) 6 0

-- RULES, Refusals: 3 for too many states, 4 for lists that disagree, 5 for too many frames
unfoldable pub frames_refusal : ℕ → List ℕ → ℕ
frames_refusal weights ds = cond (ltb most_states (length ds)) 3 (cond (not (eqb weights (length ds))) 4 (too_many (total ds)))

-- RULES, Refusals: the smallest number that applies to `mask`
abbrev pub mask_refusal : List Float → List ℕ → List ℕ → ℕ
mask_refusal ws ds voiced = or_else (frames_refusal (length ws) ds) (too_short (total ds) voiced)

-- to `boundary_distances`
abbrev pub distances_refusal : ℕ → List ℕ → List ℕ → ℕ
distances_refusal frames left right = or_else (too_many frames) (or_else (too_short frames left) (too_short frames right))

-- and to both in one call
abbrev pub masked_distances_refusal : List Float → List ℕ → List ℕ → List ℕ → List ℕ → ℕ
masked_distances_refusal ws ds voiced left right =
    or_else (frames_refusal (length ws) ds) (or_else (too_short (total ds) voiced) (or_else (too_short (total ds) left) (too_short (total ds) right)))

-- `mask`: the frame count, and the flags
pub record MaskSays (ws : List Float) (threshold : Float) (ds voiced : List ℕ) (r : Result ℕ Refusal) (voiced' : List ℕ) : Type 0 where
  pub answer : counted r ≡ answer_of (mask_refusal ws ds voiced) (total ds ∷ [])
  pub flags : voiced' ≡ written (mask_refusal ws ds voiced) (map flag (mask_of threshold (map Given ws) ds)) voiced

-- `boundary_distances`: the frame count, and the distances of any flags
pub record DistancesSays (voiced left right : List ℕ) (r : Result ℕ Refusal) (left' right' : List ℕ) : Type 0 where
  pub answer : counted r ≡ answer_of (distances_refusal (length voiced) left right) (length voiced ∷ [])
  pub before : left' ≡ written (distances_refusal (length voiced) left right) (lefts 0 (map is_on voiced)) left
  pub after : right' ≡ written (distances_refusal (length voiced) left right) (rights (map is_on voiced)) right

-- `mask_with_distances`: the frame count, the flags and the mask's distances
pub record MaskedDistancesSays (ws : List Float) (threshold : Float) (ds voiced left right : List ℕ) (r : Result ℕ Refusal) (voiced' left' right' : List ℕ) : Type 0 where
  pub answer : counted r ≡ answer_of (masked_distances_refusal ws ds voiced left right) (total ds ∷ [])
  pub flags : voiced' ≡ written (masked_distances_refusal ws ds voiced left right) (map flag (mask_of threshold (map Given ws) ds)) voiced
  pub before : left' ≡ written (masked_distances_refusal ws ds voiced left right) (lefts 0 (mask_of threshold (map Given ws) ds)) left
  pub after : right' ≡ written (masked_distances_refusal ws ds voiced left right) (rights (mask_of threshold (map Given ws) ds)) right
