-- What the mask's definitions have to do with each other.
use mathlib.Core.Path.{◌≡◌, refl, sym, ap, ◌∙◌}
use mathlib.Core.Bool.{Bool, true, false}
use mathlib.Core.List.{List, [], ◌∷◌, map}
use Prim.Native.Nat.{ℕ, zero, suc, ◌*◌, ◌<◌}
use native.Mathlib.Omega.{arith}
use mir.Val.{bool_byte}
use lib.ListN.{length, take, drop, get_or, length-map, get_or-map}
use lib.Seq.{ext_get_or, drop-cons}
use lib.Ieee.{Float, nan}
use Rattle.model.specs.declared.voice.model.Weight.{Weight}
use Rattle.model.specs.declared.voice.model.Weight.TheVariants.{Given, Absent}
use Rattle.lists.specs.Totals.{total}
use Rattle.lists.proofs.Fills.{build-length}
use Rattle.model.specs.Weight.{voiced_at}
use Rattle.model.specs.Record.{from_linear}
use Rattle.lists.specs.Frames.{expand}
use Rattle.lists.specs.Flags.{flag}
use Rattle.voicing.specs.Mask.{mask_of, weight_at, weights_of, stream_mask}
use Rattle.voicing.specs.Boundaries.{lefts, rights}
use Rattle.lists.proofs.Builds.{build-at}
use Rattle.lists.proofs.Expansions.{map-expand, expand-length}

-- ---- a state's weight, and the frames' flags by the states'

pub weights-length : (size : ℕ) (records : List Float) (n : ℕ) → length (weights_of size records n) ≡ n
unfolding weights_of
weights-length size records n = build-length (weight_at size records) n

pub weights-at : (size : ℕ) (records : List Float) (n s : ℕ) → s < n → get_or (weights_of size records n) s Absent ≡ weight_at size records s
unfolding weights_of
weights-at size records n s h = build-at (weight_at size records) n s Absent h

get_or-given : (ws : List Float) (i : ℕ) → i < length ws → get_or (map Given ws) i Absent ≡ Given (get_or ws i nan)
get_or-given [] i h = absurd (omega arith)
get_or-given (w ∷ ws) zero h = refl
get_or-given (w ∷ ws) (suc i) h = get_or-given ws i (omega arith)

alone : (x : Float) → (from_linear (x ∷ [])).msd ≡ Given x
unfolding from_linear
alone x = refl

-- records of one number each are their weights
pub weights-alone : (ws : List Float) (n : ℕ) → length ws ≡ n → weights_of 1 ws n ≡ map Given ws
weights-alone ws n e =
    ext_get_or Absent (weights_of 1 ws n) (map Given ws) (weights-length 1 ws n ∙ sym e ∙ sym (length-map ws Given))
    (λ i h.
    let l : i < length ws = omega (arith, weights-length 1 ws n) in
    let z : i * 1 ≡ i = omega arith in
    let r : take 1 (drop (i * 1) ws) ≡ get_or ws i nan ∷ [] = rw (z, drop-cons ws i nan l) in
    weights-at 1 ws n i (omega arith) ∙ ap (λ (x : List Float). (from_linear x).msd) r ∙ alone (get_or ws i nan) ∙ sym (get_or-given ws i l))

-- a test as a number is its flag
pub bool_flag : (b : Bool) → bool_byte b ≡ flag b
bool_flag true = refl
bool_flag false = refl

module _ (threshold : Float) (ws : List Weight) where
  abbrev pub state_flags : List ℕ
  state_flags = map flag (map (voiced_at threshold) ws)

  pub flag_at : (s : ℕ) → get_or state_flags s (flag (voiced_at threshold Absent)) ≡ flag (voiced_at threshold (get_or ws s Absent))
  flag_at s = get_or-map flag (map (voiced_at threshold) ws) s (voiced_at threshold Absent) ∙ ap flag (get_or-map (voiced_at threshold) ws s Absent)

  pub flags_long : length state_flags ≡ length ws
  flags_long = simp length-map

  pub mask-flags : (ds : List ℕ) → expand ds state_flags ≡ map flag (mask_of threshold ws ds)
  unfolding mask_of
  mask-flags ds = sym (map-expand flag ds (map (voiced_at threshold) ws))

-- ---- there are as many frames as the durations say

pub mask-length : (threshold : Float) (ws : List Weight) (ds : List ℕ) → length ws ≡ length ds → length (mask_of threshold ws ds) ≡ total ds
unfolding mask_of
mask-length threshold ws ds e = expand-length ds (map (voiced_at threshold) ws) (simp length-map e)

pub stream-length : (size : ℕ) (records : List Float) (threshold : Float) (ds : List ℕ) → length (stream_mask size records threshold ds) ≡ total ds
stream-length size records threshold ds = mask-length threshold (weights_of size records (length ds)) ds (weights-length size records (length ds))

pub lefts-length : (l : ℕ) (bs : List Bool) → length (lefts l bs) ≡ length bs
unfolding lefts
lefts-length l [] = refl
lefts-length l (true ∷ bs) = ap suc (lefts-length (suc l) bs)
lefts-length l (false ∷ bs) = ap suc (lefts-length 0 bs)

pub rights-length : (bs : List Bool) → length (rights bs) ≡ length bs
unfolding rights
rights-length [] = refl
rights-length (true ∷ bs) = ap suc (rights-length bs)
rights-length (false ∷ bs) = ap suc (rights-length bs)
